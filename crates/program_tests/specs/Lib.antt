pub mod SampleFilters
