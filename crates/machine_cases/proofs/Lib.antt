pub mod Cases
pub mod Log
