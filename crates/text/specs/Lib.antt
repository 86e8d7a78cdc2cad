pub mod Numbers
pub mod Split
pub mod Faults
pub mod Lines
pub mod Written
