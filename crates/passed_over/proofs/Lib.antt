pub mod Shorter
pub mod Accepted
pub mod PassedOver
