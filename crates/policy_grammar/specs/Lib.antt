pub mod TargetTexts
pub mod TermTexts
pub mod PolicyTexts
pub mod ReadingLaws
pub mod PrintedWords
pub mod FittingPolicies
pub mod WrittenTexts
