pub mod Each
pub mod Answers
pub mod LedgerClaims
