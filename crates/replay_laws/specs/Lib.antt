pub mod Walks
pub mod Copies
pub mod Standing
pub mod Restored
pub mod Sessions
pub mod Tidied
