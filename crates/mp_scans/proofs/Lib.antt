pub mod LaneLemmas
pub mod RunLemmas
pub mod LimitLemmas
pub mod PairLemmas
pub mod FillLemmas
pub mod MarkLemmas
pub mod StripLemmas
pub mod ExactLemmas
