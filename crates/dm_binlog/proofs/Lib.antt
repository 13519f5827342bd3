pub mod Chain
pub mod Columns
pub mod Heads
pub mod Laws
