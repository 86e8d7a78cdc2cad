pub mod Folded
