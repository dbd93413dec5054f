-- Pulse vectors and their numbers, the two calls, and what is promised beside them.
pub mod Word
pub mod Answer
pub mod Promises
