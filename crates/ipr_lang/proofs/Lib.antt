pub mod BothTexts
pub mod DocumentLaws
pub mod SafeRestoreRows
pub mod ValidityLaws
