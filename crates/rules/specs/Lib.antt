pub mod Questions
pub mod Matching
pub mod Rules
