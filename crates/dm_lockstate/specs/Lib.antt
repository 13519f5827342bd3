pub mod Lock
pub mod Points
