pub mod Sums
pub mod PlainNumbers
pub mod PlainDistances
