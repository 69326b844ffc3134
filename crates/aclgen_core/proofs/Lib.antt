pub mod FaultCounts
pub mod ReportedFiles
pub mod Rows
pub mod SureLaws
mod CountedTexts
mod FileLines
mod FilterCounts
mod FilterLimits
pub mod LoadedWorkloads
mod NamingFacts
mod NamingLaws
mod NamingLines
mod NamingRead
mod NumberedNames
mod OneBlock
mod PolicyLines
mod PolicyRead
mod PolicyStands
mod RangeLaws
mod ReachedItems
mod ResolvedTerms
mod TermPieces
mod TermRules
mod TextLengths
pub mod WorkloadLaws
