pub mod Reading
pub mod Offered
pub mod Entries
pub mod Placed
pub mod Putting
pub mod Together
pub mod RowLemmas
pub mod Rising
