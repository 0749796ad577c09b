pub mod Pairs
pub mod Numbers
pub mod Searching
pub mod Reached
pub mod Closed
pub mod OneOrder
pub mod Validity
pub mod Numbering
