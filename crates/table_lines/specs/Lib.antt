-- The lines of a table, judged in turn and taken onto its shelf, to be read in this order.
pub mod Reading
pub mod Taking
