-- What the proof of a column's range cites.
pub mod Ranges
