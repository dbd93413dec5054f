-- The lookups' laws. To put another search in place of the halvings: Near (low-is, high-is) and Costs (below, at-least, near_is).
pub mod Subs
pub mod Near
pub mod Costs
pub mod Halvings
pub mod Packings
pub mod Gates
