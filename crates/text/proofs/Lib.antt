pub mod FieldLaws
pub mod PlaceLaws
pub mod Values
pub mod Texts
pub mod Tabbed
pub mod Back
pub mod Lengths
pub mod Blocks
