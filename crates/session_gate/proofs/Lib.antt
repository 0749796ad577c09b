pub mod Noting
pub mod Popping
pub mod Going
pub mod Gathered
pub mod Arriving
pub mod Beginning
pub mod Keeping
