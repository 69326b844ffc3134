pub mod CountSteps
pub mod Limits
pub mod RowSteps
pub mod Sections
pub mod TableNames
