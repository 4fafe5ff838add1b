-- A line behind the header, and its row, to be read in this order.
pub mod RowLine
pub mod Judging
