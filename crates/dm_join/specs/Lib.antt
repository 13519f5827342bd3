pub mod Alteration
pub mod AtMost
pub mod Groups
pub mod Join
pub mod NameSet
