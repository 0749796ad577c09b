pub mod Cutting
pub mod Turning
