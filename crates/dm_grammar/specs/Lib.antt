pub mod Grammar
pub mod Sentence
pub mod Determinism
pub mod Reading
pub mod Meaning
pub mod Rests
