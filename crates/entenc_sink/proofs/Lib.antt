pub mod Outs
pub mod Flushes
pub mod Gaps
pub mod Keeping
