pub mod DecidedChecks
pub mod DeciderLaws
pub mod FinishedListings
pub mod MadeAnswers
pub mod OneAnswers
pub mod WrittenSections
