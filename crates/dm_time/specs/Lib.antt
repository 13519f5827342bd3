pub mod Civil
pub mod Texts
pub mod Written
