pub mod Digits
pub mod Signed
pub mod Bits
pub mod Laws
