pub mod Framing
pub mod Answers
pub mod Turns
