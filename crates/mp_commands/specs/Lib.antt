pub mod Commands
pub mod Advancing
pub mod Reads
pub mod Preparing
pub mod Fetching
