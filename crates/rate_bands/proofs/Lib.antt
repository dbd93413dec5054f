-- The laws of frames and of bands' figures that the code's proofs share; callers cite Frames and Listed.
pub mod Frames
pub mod Gauges
pub mod Reserving
pub mod Boosts
pub mod Listed
