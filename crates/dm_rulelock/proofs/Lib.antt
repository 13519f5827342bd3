pub mod Positions
pub mod Views
pub mod RuleLemmas
pub mod Steps
pub mod Later
