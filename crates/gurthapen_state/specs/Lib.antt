-- A coder's state as a list of twelve numbers, and a stream's record as a list of energies and one of its next number; what crossing promises.
pub mod State
pub mod Record
pub mod Back
