pub mod Counts
pub mod Filed
pub mod Planned
pub mod States
pub mod Stored
pub mod Taking
