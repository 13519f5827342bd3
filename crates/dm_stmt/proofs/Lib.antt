mod Joins
pub mod Laws
mod SchemaMaps
