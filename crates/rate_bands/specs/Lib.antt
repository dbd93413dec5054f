-- What the allocation's code is asked, and the lists that it makes on the way.
pub mod Inputs
pub mod Reserved
pub mod Tilts
