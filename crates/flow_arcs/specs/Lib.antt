pub mod Networks
pub mod Sides
pub mod Faults
pub mod Arcs
pub mod Searches
pub mod Pairs
pub mod Ways
pub mod Lists
