-- The counts of pulse vectors, the table that holds them, how the code packs it, and what is promised of them.
pub mod Count
pub mod Table
pub mod Rows
pub mod Promises
