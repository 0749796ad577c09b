pub mod Cells
pub mod Codes
pub mod Numbers
pub mod Errors
pub mod Lists
pub mod Answers
pub mod Notebooks
