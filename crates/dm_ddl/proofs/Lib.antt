pub mod Definitions
pub mod Formed
pub mod Numbers
pub mod Ranges
pub mod StatementLemmas
