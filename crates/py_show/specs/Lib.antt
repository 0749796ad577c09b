pub mod Limits
pub mod OnState
pub mod Uses
