pub mod Decimals
pub mod Writing
pub mod Counting
pub mod Putting
pub mod Powers
