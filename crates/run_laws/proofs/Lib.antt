pub mod Roomed
pub mod Room
pub mod LogBytes
pub mod Turns
pub mod Verdicts
pub mod Calls
pub mod Depth
