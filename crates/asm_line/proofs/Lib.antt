pub mod Laws
pub mod Lawful
pub mod Alike
pub mod Form
pub mod Examples
