pub mod Before
pub mod Ring
