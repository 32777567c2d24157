pub mod Marks
pub mod Laws
pub mod Twins
pub mod Risen
