pub mod Messages
pub mod Frames
pub mod Pieces
pub mod Replies
pub mod Nodes
