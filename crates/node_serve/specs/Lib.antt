pub mod Interleaving
pub mod Units
pub mod Sent
pub mod Service
pub mod Hearing
pub mod Links
pub mod Closing
pub mod Doors
