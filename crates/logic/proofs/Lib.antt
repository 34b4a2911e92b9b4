pub mod Periodic
pub mod Decided
pub mod Meanings
pub mod Examples
pub mod Same
