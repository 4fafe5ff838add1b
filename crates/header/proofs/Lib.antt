pub mod Cutting
pub mod Quoting
pub mod Names
pub mod Kept
