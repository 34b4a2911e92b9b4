pub mod Row
pub mod Shape
