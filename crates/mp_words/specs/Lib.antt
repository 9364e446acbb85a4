pub mod Limits
pub mod Names
pub mod Numbers
pub mod Reading
pub mod Options
pub mod Jobs
