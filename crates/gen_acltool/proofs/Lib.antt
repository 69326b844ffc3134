pub mod DecisionLaws
pub mod EntryCounts
pub mod ListNumbers
pub mod Rows
pub mod SectionLaws
pub mod FirstRows
pub mod RestoredRows
pub mod RestoredSections
