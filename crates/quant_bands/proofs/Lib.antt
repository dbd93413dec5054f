-- The laws of a step, of a band and of the passes, of a call's answer, and what the energies keep.
pub mod Stepping
pub mod BandKind
pub mod Banded
pub mod Offsets
pub mod Spent
pub mod Ranged
pub mod Accepts
pub mod Outside
pub mod Bounds
pub mod Largest
pub mod Finite
