pub mod Locals
pub mod Added
