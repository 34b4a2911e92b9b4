pub mod Checked
pub mod FileHistory
pub mod Promises
pub mod Unwritten
