pub mod Referring
pub mod Points
pub mod Timing
