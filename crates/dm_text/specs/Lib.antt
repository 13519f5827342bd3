pub mod Columns
pub mod Kinds
pub mod Names
pub mod Values
