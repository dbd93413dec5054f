-- Shapes: the square root of an energy, a shape and its collapse mask, the whole call, and what is promised beside it.
pub mod Root
pub mod Shape
pub mod Mask
pub mod Answer
pub mod Promises
