pub mod Expansions
pub mod ExpansionSlips
pub mod KnownRules
pub mod SlipSteps
pub mod TermRules
