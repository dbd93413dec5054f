-- What holds between calls of different crates, as statements.
pub mod Finalise
pub mod Figures
pub mod Frames
