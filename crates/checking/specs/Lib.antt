pub mod Marks
pub mod Outputs
pub mod Told
