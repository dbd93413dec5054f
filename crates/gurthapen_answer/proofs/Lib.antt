pub mod Exports
pub mod Coded
