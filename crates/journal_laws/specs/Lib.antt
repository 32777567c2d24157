pub mod Past
pub mod Session
pub mod On
