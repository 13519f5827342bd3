pub mod Load
pub mod Merge
pub mod Places
pub mod Reading
pub mod Rows
pub mod Sources
pub mod Top
pub mod Showing
