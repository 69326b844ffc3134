pub mod DecisionLaws
pub mod EntryCounts
pub mod NumberTexts
pub mod Rows
pub mod RuleLaws
pub mod SectionLaws
pub mod TableNames
