pub mod Spelled
pub mod Bare
pub mod Lists
pub mod Standing
pub mod Last
pub mod Ends
pub mod Stepped
pub mod Places
pub mod Keeps
pub mod Completed
pub mod Prior
pub mod Whole
pub mod Refused
pub mod Failing
mod Examples
pub mod AloneKept
pub mod AloneRead
pub mod AloneFailing
mod AloneExamples
