pub mod Chaining
pub mod Placing
