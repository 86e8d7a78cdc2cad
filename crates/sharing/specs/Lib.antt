pub mod Accepts
pub mod Pairs
pub mod Shares
pub mod Chains
pub mod Claims
pub mod Through
pub mod Called
pub mod Played
