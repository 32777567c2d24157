pub mod Bits
pub mod Laws
pub mod Named
pub mod Conditions
