pub mod Members
pub mod Places
pub mod Added
pub mod Growing
