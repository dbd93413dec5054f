-- Lemmas that the proofs share, and what follows of the public call's definition. To cite: Agreement (reader-agrees, never_disagreed), which is where
-- the theorem of round_trip comes in.
pub mod Counting
pub mod Checking
pub mod Stepping
pub mod Running
pub mod Sharing
pub mod Joining
pub mod Backing
pub mod Outcomes
pub mod Agreement
pub mod Said
