-- What an answer leaves in the lists that a call was lent: one shape for all, and what each kind of answer says.
pub mod Result
pub mod Coder
pub mod Dec
pub mod Enc
pub mod Lap
pub mod Pulses
pub mod Allocation
pub mod Energies
pub mod Shapes
pub mod Record
pub mod Requests
