-- Correction slips, each taken whole or not at all, to be read in this order.
pub mod Slips
pub mod Taking
pub mod Calls
