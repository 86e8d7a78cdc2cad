pub mod Meaning
pub mod Counts
pub mod Questions
pub mod Searches
