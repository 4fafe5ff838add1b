pub mod Turns
pub mod Opening
