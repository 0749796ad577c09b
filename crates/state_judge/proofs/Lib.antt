pub mod Agreed
pub mod Versions
