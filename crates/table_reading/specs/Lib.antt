-- A table read: its top, its lines, and the book that they leave, to be read in this order.
pub mod Reading
pub mod Taking
