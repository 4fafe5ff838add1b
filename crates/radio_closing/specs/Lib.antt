-- What a table comes to when it is closed.
pub mod Closing
