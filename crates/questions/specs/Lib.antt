-- What the book is asked: the blocks of a type, and a block, to be read in this order.
pub mod Questions
pub mod Calls
