pub mod Levels
pub mod Staying
pub mod Turning
pub mod Ending
pub mod Extending
pub mod Leaves
