pub mod DocumentLaws
pub mod EntryReadingLaws
pub mod HalfLaws
pub mod SafeRows
pub mod ScanLaws
pub mod SectionScanLaws
pub mod ValidityLaws
pub mod WalkLaws
