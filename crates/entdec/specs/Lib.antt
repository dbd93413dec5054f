pub mod Coded
pub mod Read
pub mod Symbols
pub mod Rule
pub mod Answer
pub mod Ready
pub mod Promises
