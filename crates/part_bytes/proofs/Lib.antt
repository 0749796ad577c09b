pub mod Orders
pub mod ByAddress
pub mod Pieces
pub mod Tables
pub mod Lengths
pub mod Small
pub mod Closing
