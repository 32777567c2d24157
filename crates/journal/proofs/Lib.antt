pub mod Record
pub mod Restore
pub mod Ring
pub mod Calls
