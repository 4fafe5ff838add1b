pub mod Points
pub mod Keeping
