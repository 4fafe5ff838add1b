-- The header of a text, to be read in this order.
pub mod Header
pub mod Heading
pub mod Top
