pub mod Admitting
pub mod Standing
pub mod InOrder
pub mod Taking
