pub mod SumLemmas
pub mod Steps
pub mod Taken
pub mod Moving
pub mod EntryLemmas
pub mod Growing
mod QueueLemmas
pub mod ShiftLemmas
pub mod KeptEntries
pub mod KeptRows
pub mod KeptStands
