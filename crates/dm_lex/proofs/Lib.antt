pub mod ClosingLemmas
pub mod FamilyLemmas
pub mod LexemeLemmas
pub mod NumberLemmas
pub mod TokenLemmas
pub mod Laws
