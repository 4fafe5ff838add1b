pub mod Reading
pub mod Lines
pub mod Keeping
pub mod Parting
