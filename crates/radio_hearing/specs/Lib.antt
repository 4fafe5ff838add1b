-- Where the lines of a part end.
pub mod Hearing
