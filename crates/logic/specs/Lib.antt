pub mod Formula
pub mod Abbreviations
pub mod Run
pub mod Truth
pub mod Decide
pub mod Same
pub mod Meanings
