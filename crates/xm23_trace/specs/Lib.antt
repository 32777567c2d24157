pub mod Api
