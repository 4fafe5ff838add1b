pub mod Counting
pub mod Slices
pub mod Keeping
pub mod Turns
pub mod Hearing
pub mod Settling
