pub mod Likeness
pub mod Decoded
pub mod Asked
pub mod Forming
