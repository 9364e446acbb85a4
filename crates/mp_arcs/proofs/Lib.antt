pub mod Counting
pub mod EndLemmas
pub mod EndChanges
pub mod CountLoop
pub mod ArcLoops
pub mod CurveLemmas
pub mod RegimeLemmas
