-- The calls of a delivery by radio, to be read in this order.
pub mod Calls
pub mod Turns
