-- The lines that an input is to give, and a program that answers them.
pub mod Reading
pub mod Tool
