pub mod Outcomes
pub mod Asking
