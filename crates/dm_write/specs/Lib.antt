pub mod Dumps
pub mod Lengths
pub mod ReadBack
