pub mod Unique
pub mod Questions
pub mod Carried
pub mod Itself
pub mod Keeping
pub mod OneMap
pub mod Given
pub mod Clearing
