-- A delivery read: the tables in their order, to be read in this order.
pub mod Delivery
pub mod Calls
