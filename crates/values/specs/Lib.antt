-- What content is to a column, and what the cells of a line come to, to be read in this order.
pub mod Values
pub mod Judged
