pub mod Names
pub mod Links
pub mod Columns
pub mod Greatest
pub mod Parts
