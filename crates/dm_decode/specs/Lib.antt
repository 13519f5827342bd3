pub mod Decimals
pub mod Rows
pub mod Types
pub mod Values
pub mod Widths
pub mod Upright
