pub mod Closing
pub mod Finishing
pub mod Settled
