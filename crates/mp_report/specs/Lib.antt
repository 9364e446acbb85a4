pub mod Best
pub mod Slots
pub mod Tokens
