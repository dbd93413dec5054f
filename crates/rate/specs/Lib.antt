-- The whole allocation as a call: what it is asked and when it is refused, and what it answers.
pub mod Question
pub mod Begun
pub mod Allocations
pub mod Answer
