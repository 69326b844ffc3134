pub mod Documents
pub mod ReadingSteps
pub mod Texts
