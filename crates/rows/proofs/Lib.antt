pub mod Bits
pub mod Rows
mod Steps
mod Moving
