pub mod Constants
pub mod Plain
