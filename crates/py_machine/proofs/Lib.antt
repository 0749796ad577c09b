pub mod Sets
pub mod Numbered
pub mod Drawing
pub mod Resting
pub mod Slotted
pub mod Noted
