pub mod Names
pub mod Named
pub mod Laws
pub mod NoFault
pub mod Alike
