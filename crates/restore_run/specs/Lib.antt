pub mod Walking
pub mod Restoring
pub mod Usable
