pub mod Documents
pub mod ReadingSteps
pub mod Texts
pub mod ValiditySteps
pub mod Walks
