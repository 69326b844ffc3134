pub mod DocumentLaws
pub mod SafeRows
pub mod ValidityLaws
pub mod WalkLaws
