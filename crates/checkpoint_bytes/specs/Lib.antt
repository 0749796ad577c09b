pub mod Texts
pub mod Plain
pub mod Marks
pub mod Examples
pub mod Sessions
pub mod Written
