pub mod RowsAlong
mod Folding
mod Entries
pub mod Failing
