-- What the exported calls leave, family by family, through the definitions of the calls that they stand for.
pub mod Dec
pub mod Enc
pub mod Lap
pub mod Pulses
pub mod Lookups
pub mod Allocation
pub mod Energies
pub mod Shapes
pub mod Record
pub mod Requests
pub mod Trips
