pub mod Known
pub mod Records
pub mod Texts
