pub mod Faults
pub mod Asking
pub mod Chaining
pub mod Lists
