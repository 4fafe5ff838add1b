-- The demands, to be read in this order.
pub mod Sheet
pub mod Run
pub mod Promises
pub mod Radio
pub mod Edges
pub mod WholeCase
pub mod RuledOut
