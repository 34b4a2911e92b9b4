pub mod Laws
pub mod Parts
pub mod Tautologies
pub mod Instances
pub mod Exact
pub mod Lawful
pub mod Sound
