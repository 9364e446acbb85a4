pub mod ColumnLemmas
pub mod CompareLemmas
pub mod DiscordLemmas
pub mod KeptLemmas
pub mod ReportLemmas
pub mod WrittenLemmas
pub mod PartLemmas
