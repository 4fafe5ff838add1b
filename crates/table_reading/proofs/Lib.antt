pub mod Pointing
pub mod Taking
