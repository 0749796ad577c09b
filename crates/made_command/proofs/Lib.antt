pub mod Sizes
pub mod Short
pub mod Returned
pub mod Frames
pub mod Ending
pub mod Counting
pub mod Asked
pub mod Alone
