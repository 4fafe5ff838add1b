pub mod Cutting
pub mod Marking
pub mod Ending
pub mod Contents
pub mod Joining
pub mod Numbered
