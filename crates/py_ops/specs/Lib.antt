pub mod Signs
pub mod Positions
