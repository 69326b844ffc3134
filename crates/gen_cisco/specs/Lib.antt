pub mod CountSteps
pub mod Limits
pub mod RowSteps
pub mod SectionNames
pub mod Sections
