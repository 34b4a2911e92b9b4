pub mod Verdicts
pub mod Gathering
pub mod Planning
pub mod Choosing
