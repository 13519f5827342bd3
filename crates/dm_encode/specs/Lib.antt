pub mod Numbers
pub mod Bitmaps
pub mod Kinds
pub mod Decimals
pub mod Values
pub mod Rows
pub mod Events
pub mod ReadBack
