pub mod SpelledParts
pub mod Closed
pub mod Examples
pub mod Spelled
pub mod Texts
