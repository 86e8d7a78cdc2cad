pub mod Faults
pub mod Answers
pub mod Effects
pub mod Opening
pub mod Histories
pub mod Claims
pub mod Alike
