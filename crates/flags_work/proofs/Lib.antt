pub mod Sums
pub mod Arms
