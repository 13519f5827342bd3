pub mod Heads
pub mod FileLemmas
pub mod LogLemmas
pub mod SaidLemmas
