pub mod Same
pub mod Framed
pub mod Allowed
pub mod Mentioned
pub mod Divided
pub mod Loops
pub mod Sound
