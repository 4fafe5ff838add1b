-- The lines of a text, to be read in this order.
pub mod Lines
pub mod Ends
