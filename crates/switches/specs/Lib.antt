pub mod Masks
pub mod Commands
pub mod Faults
pub mod Switched
pub mod Sets
pub mod Bounds
pub mod Meant
