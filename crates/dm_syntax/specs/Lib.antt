pub mod Classes
pub mod Names
pub mod Parsing
pub mod Pieces
pub mod Productions
pub mod Words
