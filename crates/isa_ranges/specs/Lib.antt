pub mod Operation
pub mod Ranges
pub mod Count
pub mod Bits
pub mod Theorems
