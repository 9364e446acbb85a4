pub mod Requests
pub mod Reads
pub mod Answering
pub mod AnswerLaws
pub mod Reports
