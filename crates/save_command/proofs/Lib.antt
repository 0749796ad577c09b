pub mod Deaths
pub mod Telling
