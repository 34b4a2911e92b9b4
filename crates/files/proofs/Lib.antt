pub mod Start
pub mod Reading
pub mod CallsMade
pub mod Scratch
pub mod Within
pub mod FileReads
