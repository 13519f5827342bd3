pub mod Snapshots
pub mod Steps
