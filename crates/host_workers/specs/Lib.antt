pub mod Turns
pub mod Tenures
pub mod Tables
