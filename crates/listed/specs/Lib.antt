pub mod Faults
pub mod Tables
pub mod Sound
pub mod Bounds
pub mod Meant
