pub mod Journal
pub mod Api
