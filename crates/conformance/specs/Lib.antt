pub mod Comparison
pub mod Run
