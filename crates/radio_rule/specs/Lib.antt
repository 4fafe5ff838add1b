-- The test of the rule of what is kept between parts, to be read in this order.
pub mod Lent
pub mod Testing
