pub mod Existence
pub mod Reading
