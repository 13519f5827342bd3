pub mod KeyLemmas
pub mod Texts
pub mod NameOrderLemmas
pub mod Laws
