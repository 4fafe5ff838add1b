-- The cells of a line, and their bounds, to be read in this order.
pub mod Cells
pub mod Marks
pub mod Ends
pub mod Numbered
