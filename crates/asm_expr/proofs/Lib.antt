pub mod Laws
pub mod Depth
pub mod Examples
