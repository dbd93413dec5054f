-- What the coder writes is read back, symbol by symbol. To cite: Trip (along), Kind (sym-ok).
pub mod Front
pub mod Back
pub mod Ideal
pub mod Nested
pub mod Carry
pub mod Sent
pub mod WriterFollows
pub mod Gap
pub mod Sized
pub mod LastNumber
pub mod LastBytes
pub mod Closing
pub mod ReaderFollows
pub mod Kind
pub mod Found
pub mod Rows
pub mod Trip
