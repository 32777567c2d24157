pub mod Trace
pub mod Facts
pub mod Rows
pub mod Example
pub mod AboveRows
pub mod Above
