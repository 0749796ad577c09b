pub mod Journals
pub mod Admitted
pub mod Frames
pub mod Ends
pub mod Streams
pub mod Unsent
pub mod Keeping
