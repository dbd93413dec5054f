-- Document 01's third demand, run. Read in this order: Given, Same, ReadBack and Outcome are what the public call promises; the others serve its
-- parts.
pub mod Given
pub mod Same
pub mod ReadBack
pub mod Outcome
pub mod Steps
pub mod Runs
