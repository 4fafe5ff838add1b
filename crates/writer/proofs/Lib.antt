pub mod RowLines
pub mod Answers
