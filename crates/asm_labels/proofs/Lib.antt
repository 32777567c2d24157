pub mod Alike
pub mod Labels
pub mod Example
