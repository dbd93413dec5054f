-- The bit allocation, RFC 6716, section 4.3.3: how a frame's bits are shared among its bands. Read in this order.
pub mod Types
pub mod Reserves
pub mod Vectors
pub mod Trials
pub mod Skips
pub mod Split
pub mod Alloc
pub mod Answers
pub mod Written
pub mod Ledger
pub mod Domain
pub mod Caps
pub mod Highest
pub mod Laws
pub mod Signed
