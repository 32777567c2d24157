pub mod Bits
pub mod Events
pub mod Laws
