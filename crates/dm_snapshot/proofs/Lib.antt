pub mod Readings
pub mod FileLemmas
