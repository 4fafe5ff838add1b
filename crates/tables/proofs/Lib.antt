pub mod Figures
pub mod Listing
pub mod Names
pub mod Parts
pub mod References
