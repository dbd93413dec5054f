pub mod Lawful
pub mod Along
