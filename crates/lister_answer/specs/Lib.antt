-- The lister, line by line: what a line asks, the caps, and what it is answered with.
pub mod Request
pub mod Caps
pub mod Lines
pub mod Answer
pub mod Decision
pub mod Example
