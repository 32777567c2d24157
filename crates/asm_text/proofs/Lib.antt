pub mod Laws
pub mod Spelling
