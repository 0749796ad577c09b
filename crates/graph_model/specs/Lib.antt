pub mod Graphs
pub mod Faults
pub mod Walks
pub mod Plans
pub mod Networks
pub mod Marks
