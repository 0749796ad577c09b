pub mod Sessions
pub mod Standing
pub mod Taking
pub mod Intake
