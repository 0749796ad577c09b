pub mod Decimal
pub mod Ends
pub mod Escapes
