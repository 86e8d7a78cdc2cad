pub mod Numerals
pub mod Parting
pub mod Writing
