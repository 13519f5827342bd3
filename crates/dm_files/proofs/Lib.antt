pub mod FrontLemmas
pub mod Lengths
