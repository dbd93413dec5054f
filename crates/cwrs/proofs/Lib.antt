-- The laws of vectors and numbers, of the way back, of both together, and of the calls' refusals and answers.
pub mod Words
pub mod Back
pub mod Inverse
pub mod Refusing
pub mod Answers
pub mod Promises
