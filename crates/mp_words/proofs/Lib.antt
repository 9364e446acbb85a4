pub mod GivenLemmas
pub mod WordLemmas
pub mod ClapLemmas
