pub mod Faults
pub mod Places
pub mod Texts
pub mod Readings
