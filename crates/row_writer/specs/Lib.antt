pub mod RowsAlong
pub mod Steps
pub mod Searching
