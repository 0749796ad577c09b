pub mod Flows
pub mod First
