pub mod Accepts
pub mod Once
pub mod Again
pub mod Mono
pub mod Uses
pub mod Said
