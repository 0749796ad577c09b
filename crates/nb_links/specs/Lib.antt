pub mod Lines
pub mod Doors
pub mod Opening
pub mod Memory
pub mod Arrivals
