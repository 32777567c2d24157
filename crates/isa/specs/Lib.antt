pub mod Decode
pub mod Encode
pub mod Legal
pub mod Fields
