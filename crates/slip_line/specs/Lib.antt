-- A line of a slip: what it asks for, and its numbers, to be read in this order.
pub mod SlipLine
pub mod Marks
