pub mod ClashSteps
pub mod Clashes
pub mod FilterEndings
pub mod TargetData
pub mod TargetTexts
