pub mod Commands
pub mod Streaming
pub mod Telling
