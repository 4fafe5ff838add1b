-- The vehicle_block writer, to be read in this order.
pub mod Writing
pub mod Calls
