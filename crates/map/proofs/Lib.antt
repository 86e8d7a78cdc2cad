pub mod Count
pub mod Asked
pub mod Moves
pub mod Searches
