pub mod Recorded
pub mod Lists
pub mod Validity
pub mod Names
pub mod Written
