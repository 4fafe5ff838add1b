pub mod Parting
pub mod Hearing
pub mod Counting
pub mod Stretching
pub mod Lawful
pub mod Laying
