pub mod Limiting
pub mod Alike
pub mod Deeper
pub mod Ending
