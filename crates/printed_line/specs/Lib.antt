pub mod Sheet
pub mod Slices
