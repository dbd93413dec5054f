pub mod Kept
pub mod Steps
pub mod Said
