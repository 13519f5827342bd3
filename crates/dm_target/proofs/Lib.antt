mod Blowing
mod Changing
mod Entries
pub mod Laws
mod Orders
mod Taking
pub mod OrderedTwice
pub mod Ordering
