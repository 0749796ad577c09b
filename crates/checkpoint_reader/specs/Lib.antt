pub mod Steps
pub mod Reads
pub mod Fields
pub mod Numbered
pub mod Judging
pub mod PartReads
pub mod PartReading
