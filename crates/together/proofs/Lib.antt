-- The statements of specs, proved.
pub mod Accepted
pub mod Entries
pub mod Finalise
pub mod Figures
pub mod Frames
