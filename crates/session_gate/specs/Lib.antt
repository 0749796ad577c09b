pub mod Answered
pub mod Facts
pub mod Slots
pub mod Custodies
