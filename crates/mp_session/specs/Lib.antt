pub mod Sessions
pub mod Running
pub mod Calls
pub mod Serving
pub mod Statuses
