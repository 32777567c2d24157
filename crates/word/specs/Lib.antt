pub mod Width
pub mod Psw
pub mod Offset
