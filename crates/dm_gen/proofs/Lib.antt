pub mod Ranges
pub mod Walks
pub mod Rooms
pub mod Logging
pub mod DumpFiles
pub mod Laws
pub mod Shorts
