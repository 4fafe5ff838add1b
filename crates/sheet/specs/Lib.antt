-- The day sheet, to be read in this order.
pub mod Sheet
pub mod Calls
