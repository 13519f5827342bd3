pub mod Causes
pub mod Sayings
pub mod Logs
pub mod Views
pub mod TableMaps
pub mod Rests
