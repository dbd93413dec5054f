-- The stream record: what a frame makes of it, and what a stream of frames does.
pub mod Frame
pub mod History
