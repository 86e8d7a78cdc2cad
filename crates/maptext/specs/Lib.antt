pub mod Steps
pub mod MapTexts
pub mod Lent
pub mod Readers
