pub mod Items
pub mod Passes
pub mod Ends
