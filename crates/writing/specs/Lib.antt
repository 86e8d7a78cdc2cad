pub mod Faults
pub mod Sinks
pub mod Writes
pub mod Laws
pub mod Saves
