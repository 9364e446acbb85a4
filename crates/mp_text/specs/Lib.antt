pub mod SampleText
pub mod SampleLaws
pub mod Spelling
pub mod Records
pub mod Rows
pub mod Table
pub mod TableLaws
pub mod Gathering
