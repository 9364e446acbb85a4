pub mod Stores
pub mod Channels
pub mod Seen
pub mod StoreLaws
