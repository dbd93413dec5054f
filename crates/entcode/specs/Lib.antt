pub mod Range
pub mod Tell
pub mod Said
pub mod Counts
pub mod Refusal
pub mod Sym
