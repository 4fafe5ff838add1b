-- The days of a span, and what a type's blocks run on a day of each day type, to be read in this order.
pub mod Days
pub mod Tally
