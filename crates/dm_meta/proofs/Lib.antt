pub mod Tokens
pub mod Numbers
pub mod Values
pub mod Entries
pub mod Documents
pub mod ReadBack
pub mod Laws
pub mod Keys
