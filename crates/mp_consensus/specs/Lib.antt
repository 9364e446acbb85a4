pub mod Bounds
pub mod Conditions
pub mod Laws
pub mod Searches
pub mod Blocks
pub mod Examples
pub mod Searchers
