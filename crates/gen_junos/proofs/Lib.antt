pub mod DecisionLaws
pub mod NameLaws
pub mod Rows
pub mod SectionLaws
pub mod TermLaws
