pub mod Held
pub mod Lexemes
pub mod Literals
pub mod Places
pub mod Tokens
