pub mod Numbers
pub mod Naming
pub mod Schemas
pub mod Steps
pub mod Logs
pub mod Tasks
pub mod Dumps
pub mod Generated
