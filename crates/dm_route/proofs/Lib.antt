pub mod Decodings
pub mod Encodings
pub mod Laws
pub mod Overlaps
pub mod Runs
