-- What the ledger is handed, and what is claimed of it, to be read in this order.
pub mod Calls
pub mod Claims
