-- A line of a slip taken on the blocks as they stand on the shelf, to be read in this order.
pub mod Change
pub mod Taking
