pub mod ListLemmas
pub mod RowLemmas
pub mod SampleLemmas
pub mod BestLemmas
pub mod TokenLemmas
pub mod AsciiLemmas
