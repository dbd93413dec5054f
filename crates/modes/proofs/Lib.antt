-- The rule of each table, proved once from one computed test, and the lemmas that follow from it.
pub mod Entries
pub mod CacheRule
pub mod CapRule
pub mod EdgeRule
pub mod EnergyModelRule
pub mod FractionRule
pub mod Laplace
pub mod LogWidthRule
pub mod PredictionRule
pub mod Rules
pub mod VectorRule
