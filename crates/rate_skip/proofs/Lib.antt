-- Lemmas that the proofs share. To cite: Anyone.
pub mod Figured
pub mod Going
pub mod Following
pub mod Anyone
