pub mod ByNumbers
pub mod Verdicts
