pub mod Faults
pub mod Puts
pub mod Read
pub mod Rules
pub mod Texts
pub mod Walked
