pub mod SourceSays
pub mod Checks
pub mod Pulsing
pub mod Given
pub mod Arrays
pub mod Finding
mod Doubling
mod Growing
pub mod Placed
