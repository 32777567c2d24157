pub mod Statement
pub mod Line
