-- The laws of the loops that the code's proofs share.
pub mod Points
pub mod Parts
pub mod Halving
pub mod LastPass
pub mod Settling
pub mod Calls
