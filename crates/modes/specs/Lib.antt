-- The tables of CELT's 48 kHz mode as RFC 6716 has them, each with how it is read, and what they keep (Rules).
pub mod CacheBits
pub mod CacheIndex
pub mod Caps
pub mod Edges
pub mod Eighths
pub mod EnergyModel
pub mod Fractions
pub mod Laplace
pub mod LogWidths
pub mod Prediction
pub mod Rules
pub mod SmallEnergy
pub mod Vectors
