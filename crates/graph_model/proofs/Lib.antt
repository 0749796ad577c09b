pub mod Ascending
pub mod Lookups
pub mod Walking
pub mod Needing
pub mod Indexing
