pub mod Padding
pub mod Granting
