pub mod Digits
pub mod Line
pub mod OneCommand
pub mod RunWords
pub mod Runs
pub mod Takes
