-- The question for a cell, to be read in this order.
pub mod CellQuestion
pub mod Asking
