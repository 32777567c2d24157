pub mod Bounds
pub mod Lines
pub mod Loads
pub mod Passed
pub mod Twins
