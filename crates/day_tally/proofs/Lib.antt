pub mod Spans
pub mod Shares
pub mod Tallying
