pub mod Out
pub mod Carry
pub mod Gap
pub mod Fit
