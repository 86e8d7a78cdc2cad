mod Idle
pub mod Sharing
pub mod Chains
pub mod Both
