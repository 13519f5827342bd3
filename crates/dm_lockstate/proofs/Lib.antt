pub mod Refusals
pub mod Examples
pub mod Laws
pub mod ValueLaws
