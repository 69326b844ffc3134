pub mod AddressReading
pub mod Documents
pub mod EntryHalves
pub mod ReadingSteps
pub mod ScanSteps
pub mod Texts
pub mod ValiditySteps
pub mod Walks
