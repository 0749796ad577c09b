pub mod Keeping
pub mod Growing
pub mod Telling
pub mod Opened
