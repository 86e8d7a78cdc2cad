mod Asking
mod Putting
mod Saving
pub mod Lengths
