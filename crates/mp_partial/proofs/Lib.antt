pub mod Merging
pub mod InOrder
