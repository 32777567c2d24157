pub mod Need
pub mod Stack
