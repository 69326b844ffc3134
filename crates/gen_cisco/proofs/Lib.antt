pub mod DecisionLaws
pub mod EntryCounts
pub mod EntryLaws
pub mod ListNames
pub mod Rows
pub mod SectionLaws
