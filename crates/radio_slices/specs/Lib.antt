-- What the calls of a delivery by radio leave in the lent slices, and take up from them.
pub mod Numbers
pub mod Hearing
pub mod Settling
