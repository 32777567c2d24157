pub mod Call
pub mod Trip
