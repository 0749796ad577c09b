pub mod Pieces
pub mod Saying
pub mod Floats
pub mod Chunking
pub mod Telling
pub mod Counts
