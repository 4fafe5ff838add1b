-- The rules that a row meets in its book: times and references, to be read in this order.
pub mod Rules
pub mod Points
