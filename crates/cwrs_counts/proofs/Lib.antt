-- The laws of the counts, the test of the stored table, the arms of a match over it, and the promises.
pub mod Recurrence
pub mod Arms
pub mod Table
pub mod Promises
