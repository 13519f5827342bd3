pub mod Arrays
pub mod Documents
pub mod Examples
pub mod Files
pub mod KindSets
pub mod Laws
