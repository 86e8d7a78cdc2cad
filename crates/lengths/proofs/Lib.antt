mod Words
pub mod Entries
mod Known
mod Sweeps
mod Filling
pub mod Drawn
