pub mod Picks
pub mod Candidates
pub mod Laws
pub mod Examples
pub mod PickLaws
pub mod CandidateLaws
pub mod Retelling
