pub mod ChainRowSteps
pub mod CountSteps
pub mod EntryRows
pub mod Groups
pub mod Limits
pub mod SectionNames
pub mod Sections
pub mod TailSteps
