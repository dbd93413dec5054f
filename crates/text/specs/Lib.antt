-- Lines of text: their fields, the numbers in them, and how a number is written.
pub mod Fields
pub mod Digits
pub mod Numbers
pub mod Written
pub mod Lines
