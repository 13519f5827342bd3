pub mod Fields
pub mod Paths
pub mod Places
pub mod Reading
pub mod Shards
pub mod TaskFile
pub mod Texts
