pub mod Example
pub mod Asking
pub mod Table
pub mod Files
pub mod Verdicts
pub mod Truths
pub mod Hypotheses
pub mod Numbers
