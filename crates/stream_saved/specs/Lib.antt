-- Saved records as lines of text: the fields of a line, and what saving writes and restoring reads.
pub mod Fields
pub mod Answer
pub mod Lines
pub mod Loop
pub mod Back
