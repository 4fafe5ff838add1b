-- What is kept behind a part of a table.
pub mod Keeping
