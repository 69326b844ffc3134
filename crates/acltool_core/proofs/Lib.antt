pub mod ListedChoiceLaws
pub mod ListedLaws
pub mod OneAnswers
pub mod RestoredChoiceLaws
pub mod RestoredLaws
pub mod TellingLaws
pub mod ToolJobs
