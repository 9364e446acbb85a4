pub mod FiledLemmas
pub mod Outcomes
pub mod PlannedLemmas
pub mod SinkLemmas
