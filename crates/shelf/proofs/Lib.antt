pub mod Shifts
pub mod Shelving
pub mod Slots
