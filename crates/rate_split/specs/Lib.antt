-- What the code of the spread and the split answers, and what it is asked.
pub mod Splits
pub mod Bands
pub mod Lent
