pub mod Causes
pub mod Walks
pub mod Steps
pub mod Changes
