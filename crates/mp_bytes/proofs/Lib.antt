pub mod FieldLemmas
pub mod LineLemmas
pub mod JoinedLemmas
pub mod NumberLemmas
pub mod ValueLemmas
