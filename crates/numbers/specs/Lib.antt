-- Decimal numbers, read and written, to be read in this order.
pub mod Numbers
pub mod Putting
pub mod Decimals
pub mod Powers
