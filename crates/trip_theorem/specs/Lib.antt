-- What is written is read back: symbols as the public calls take them, rows of calls, and document 01's demand. Read in this order.
pub mod Calls
pub mod Rows
pub mod Demand
pub mod Example
