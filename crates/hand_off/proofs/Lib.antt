mod Leaving
pub mod Doing
