pub mod Found
pub mod OneMore
