pub mod Asking
pub mod Contents
pub mod Writing
pub mod Fuses
pub mod Maps
pub mod Memory
pub mod Refusals
pub mod Reach
