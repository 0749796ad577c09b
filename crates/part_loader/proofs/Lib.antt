pub mod Moved
pub mod Whole
pub mod Binding
pub mod Loads
pub mod Validity
