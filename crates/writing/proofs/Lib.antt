pub mod Joins
mod Digits
mod Over
mod Fields
