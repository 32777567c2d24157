pub mod Inputs
pub mod Laws
pub mod Sliced
