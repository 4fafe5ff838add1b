-- A table's rows in a lent slice, by rising key, to be read in this order.
pub mod Rows
pub mod Room
pub mod Spots
