pub mod Weighing
pub mod Failing
pub mod Checking
