-- Lemmas that the proofs share. To cite: Boosts.
pub mod Fines
pub mod CodedBands
pub mod Fills
pub mod Boosts
