pub mod Held
pub mod Model
pub mod Asking
