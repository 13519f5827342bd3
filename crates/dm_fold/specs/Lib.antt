pub mod Folds
pub mod Touching
