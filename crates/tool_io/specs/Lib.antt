-- What was read and written, as the records have it.
pub mod Moved
