pub mod CountSteps
pub mod Limits
pub mod ListNumbers
pub mod RowSteps
pub mod Sections
pub mod FirstLines
pub mod RestoredFilters
