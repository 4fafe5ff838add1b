-- Seconds in hours, and how near they are, to be read in this order.
pub mod Hours
pub mod Claims
