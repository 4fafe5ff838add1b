-- What the proofs of the calendar cite, and the theorems on it.
pub mod Dates
pub mod DateClaims
