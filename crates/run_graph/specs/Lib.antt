pub mod Parts
pub mod Histories
pub mod Soundness
pub mod RunLists
pub mod Growing
pub mod Fitting
pub mod Examples
