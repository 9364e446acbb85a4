pub mod AnyShelf
pub mod EndLemmas
pub mod ReadLemmas
pub mod RunLemmas
pub mod ServeLemmas
pub mod StepLemmas
pub mod UnderWay
