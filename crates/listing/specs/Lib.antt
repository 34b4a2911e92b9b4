pub mod Listing
pub mod Room
pub mod SameListing
pub mod LineByLine
pub mod Standings
pub mod Written
