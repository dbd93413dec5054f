pub mod Joined
pub mod Bands
pub mod Floats
pub mod Written
pub mod Framing
pub mod Ended
