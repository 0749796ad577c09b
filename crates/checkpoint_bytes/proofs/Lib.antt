pub mod Small
pub mod Items
pub mod Written
pub mod Tables
pub mod Gathering
pub mod Whole
pub mod Copied
