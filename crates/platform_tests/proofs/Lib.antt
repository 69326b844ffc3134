pub mod SampleSections
