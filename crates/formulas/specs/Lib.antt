pub mod Refusals
pub mod Entries
pub mod Decode
pub mod Forming
pub mod Listed
