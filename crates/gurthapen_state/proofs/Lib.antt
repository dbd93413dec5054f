pub mod Numbers
pub mod Lists
pub mod Firsts
pub mod Back
