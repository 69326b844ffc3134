pub mod Limits
pub mod SectionNames
pub mod Sections
