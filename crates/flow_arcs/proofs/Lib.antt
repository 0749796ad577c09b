pub mod Sums
pub mod Searching
pub mod Pushing
pub mod Solving
pub mod Partners
pub mod Ways
pub mod Listing
pub mod Resting
