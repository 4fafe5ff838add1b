-- The Gregorian calendar, and what is claimed of it, to be read in this order.
pub mod Calendar
pub mod Claims
