-- The pulse cache's lookups, RFC 6716, section 4.3.4.1, and document 01, "Allocation": bits to an index of pulses, and back.
pub mod Pulses
pub mod Nearest
pub mod Rows
pub mod Packed
pub mod Lookups
