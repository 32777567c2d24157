pub mod Reached
pub mod Free
