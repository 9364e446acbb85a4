pub mod ArcLemmas
pub mod CopyLemmas
pub mod GroupLemmas
pub mod KeptLemmas
pub mod StoreLemmas
pub mod PartLemmas
