pub mod Answering
pub mod Uniqueness
pub mod Folding
pub mod PartsLemmas
pub mod Ready
pub mod Terminals
