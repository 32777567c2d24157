pub mod Bytes
pub mod Recall
pub mod Again
pub mod Accepted
pub mod Session
pub mod On
