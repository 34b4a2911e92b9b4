pub mod Growing
mod ByFirst
pub mod Decimals
pub mod Room
pub mod SameListing
pub mod LineByLine
