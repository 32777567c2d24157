pub mod Laws
pub mod Journal
