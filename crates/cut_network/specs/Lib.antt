pub mod Arcs
pub mod Shown
pub mod Drawn
