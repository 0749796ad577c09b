pub mod Loading
pub mod References
