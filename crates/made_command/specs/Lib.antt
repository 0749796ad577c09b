pub mod Made
pub mod Counting
pub mod Asked
