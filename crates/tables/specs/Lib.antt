-- The tables of a delivery, their figures and their columns, to be read in this order.
pub mod Columns
pub mod Parts
pub mod Listing
