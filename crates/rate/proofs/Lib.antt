-- Lemmas that the proofs share. To cite: Accepts, Coded.
pub mod Begins
pub mod Joined
pub mod Figures
pub mod Accepts
pub mod Coded
