pub mod Image
pub mod Accepted
pub mod Values
pub mod Decoded
pub mod Example
