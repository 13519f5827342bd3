pub mod Characters
pub mod Patterns
pub mod Reaching
pub mod Rules
