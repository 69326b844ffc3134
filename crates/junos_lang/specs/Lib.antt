pub mod ConditionSteps
pub mod Documents
pub mod FixedRows
pub mod ReadingSteps
pub mod ScanSteps
pub mod Texts
pub mod ValiditySteps
pub mod Walks
