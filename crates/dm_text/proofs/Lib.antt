pub mod Commas
pub mod Joins
