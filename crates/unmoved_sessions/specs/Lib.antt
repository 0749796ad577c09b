pub mod Cells
pub mod Answered
pub mod Streams
pub mod Alike
pub mod Ended
