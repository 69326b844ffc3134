pub mod Documents
pub mod ReadingSteps
pub mod RuleLines
pub mod ScanSteps
pub mod Texts
pub mod ValiditySteps
pub mod Walks
