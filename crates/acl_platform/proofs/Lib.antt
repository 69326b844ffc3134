pub mod AcceptedFilters
pub mod ChoiceLaws
pub mod CombinationFacts
pub mod CombinationLaws
pub mod ElementLaws
pub mod FieldLaws
pub mod HalfLaws
pub mod EntryLaws
mod NameSlotLaws
pub mod NamedNumbers
mod NumberLaws
pub mod OneName
pub mod PairLaws
mod RuleOutcomes
pub mod RuleNames
pub mod RuleNumbers
pub mod Sections
pub mod SoundRules
pub mod TailLaws
pub mod TextFronts
