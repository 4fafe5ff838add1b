-- The fields of a slip line, to be read in this order.
pub mod Fields
pub mod Marks
