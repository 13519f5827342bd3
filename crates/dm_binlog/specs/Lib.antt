pub mod Bodies
pub mod Framing
pub mod Fronts
pub mod Order
pub mod Tables
