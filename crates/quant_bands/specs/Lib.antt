-- The energies of the bands: how a coarse step is read, the coarse decode, the last bits, what a call is asked and what it answers, and what is
-- promised beside that.
pub mod Steps
pub mod Prediction
pub mod Coarse
pub mod Finalise
pub mod Domain
pub mod Question
pub mod Answer
pub mod Promises
