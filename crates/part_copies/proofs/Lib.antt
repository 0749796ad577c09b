pub mod Copied
pub mod Counting
pub mod Keeping
pub mod Written
