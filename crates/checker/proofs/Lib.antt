pub mod Checking
pub mod Listed
pub mod Page
pub mod Promised
pub mod Fitting
pub mod InBuffer
pub mod Starting
