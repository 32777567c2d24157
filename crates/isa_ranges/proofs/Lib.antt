pub mod All
pub mod Operations
pub mod Rows
pub mod Ranges
pub mod Count
