pub mod Structures
pub mod Runs
pub mod Until
pub mod Formulas
pub mod Rows
pub mod Folds
