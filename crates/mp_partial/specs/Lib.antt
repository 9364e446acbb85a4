pub mod Values
pub mod MergeLaws
pub mod Profiled
pub mod Together
pub mod TogetherLaws
pub mod Offers
pub mod Patching
pub mod PatchingLaws
