pub mod Bounds
pub mod Groups
pub mod Laws
pub mod Steps
pub mod Vectors
pub mod Whole
