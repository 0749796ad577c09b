pub mod Holding
pub mod Packing
pub mod Laws
