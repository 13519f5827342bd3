pub mod Histories
pub mod Changes
pub mod Builds
pub mod Steps
pub mod Laws
