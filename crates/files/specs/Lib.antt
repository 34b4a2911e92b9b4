pub mod Reading
pub mod CallsMade
pub mod FileReads
