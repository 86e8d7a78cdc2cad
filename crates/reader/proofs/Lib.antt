pub mod Endings
pub mod Takings
