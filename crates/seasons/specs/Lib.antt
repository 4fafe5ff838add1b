-- What a type's blocks run in a season, and what is claimed of it, to be read in this order.
pub mod Seasons
pub mod Calls
pub mod Claims
pub mod Summing
