pub mod Values
pub mod Keys
pub mod Numbers
pub mod Reprs
