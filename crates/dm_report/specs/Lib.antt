pub mod Texts
pub mod Faults
pub mod Tasks
pub mod Shows
