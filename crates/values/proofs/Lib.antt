pub mod Decimals
pub mod Values
