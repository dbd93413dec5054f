-- Laplace values: the places of each, the pairs they are written with, the two calls, and what is promised beside them.
pub mod Chain
pub mod Signed
pub mod Pairs
pub mod Model
pub mod Coded
pub mod Answer
pub mod Rows
pub mod Promises
