pub mod Laws
pub mod Offset
