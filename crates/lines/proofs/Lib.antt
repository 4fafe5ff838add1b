pub mod Lining
pub mod Starting
