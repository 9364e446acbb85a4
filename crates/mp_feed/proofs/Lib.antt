pub mod FeedRuns
pub mod FeedSteps
pub mod ReadLemmas
pub mod ReaderLemmas
