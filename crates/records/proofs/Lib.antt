pub mod Cutting
pub mod NextItem
pub mod Extents
pub mod ReadBack
pub mod TwoBytes
pub mod Asking
pub mod Found
