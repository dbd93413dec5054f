-- What an encoder wrote a decoder reads. To cite: Demand3 (demand3, coded_once, row3); Witness shows a trip that is sent.
pub mod Symbols
pub mod RowsBack
pub mod Allocation
pub mod Gates
pub mod Demand3
pub mod Witness
