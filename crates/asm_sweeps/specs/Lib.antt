pub mod Form
pub mod Places
pub mod Uses
pub mod Held
