pub mod Zeros
pub mod Faults
pub mod Numbers
pub mod Rule
