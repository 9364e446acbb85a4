pub mod Limits
pub mod Pairs
pub mod Cutting
pub mod Tight
pub mod Laws
pub mod CutLaws
pub mod Examples
