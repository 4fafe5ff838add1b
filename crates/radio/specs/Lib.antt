-- The delivery by radio, to be read in this order.
pub mod Radio
pub mod Rule
pub mod Room
pub mod Hearing
