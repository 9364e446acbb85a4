pub mod ColumnLemmas
pub mod ReadLemmas
pub mod RefLemmas
