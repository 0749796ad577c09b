pub mod Beginning
pub mod Grammar
pub mod Line
