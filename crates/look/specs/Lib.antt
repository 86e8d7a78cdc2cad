pub mod Bits
pub mod Joint
pub mod Level
pub mod Switch
