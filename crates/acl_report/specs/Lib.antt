pub mod Reports
pub mod ShadedLists
