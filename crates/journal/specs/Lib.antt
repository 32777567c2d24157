pub mod Record
pub mod Ring
pub mod Back
pub mod Call
