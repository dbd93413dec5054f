-- The laws of places, from a walk along the chain to what is promised, and the way a pair is found.
pub mod Walks
pub mod Spans
pub mod Values
pub mod Known
pub mod Looked
pub mod Lawful
pub mod Answers
pub mod Promises
