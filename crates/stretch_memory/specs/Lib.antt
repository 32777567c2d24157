pub mod Ordinary
pub mod Served
