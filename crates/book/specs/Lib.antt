-- The book that is lent, and the parts of its tables, to be read in this order.
pub mod Book
pub mod Result
pub mod Room
pub mod Holding
