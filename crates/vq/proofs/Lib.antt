-- Whole square roots, the f32 near them, the vector that is read, its mask, the call's refusals, and the promises.
pub mod Squares
pub mod Quotient
pub mod Spacing
pub mod Nearer
pub mod Only
pub mod Refusing
pub mod Vectors
pub mod Masks
pub mod Finite
pub mod Promises
