pub mod Sums
pub mod Decimal
pub mod Alu
