mod NameSlotLaws
pub mod ClashLaws
pub mod ClausesInParts
pub mod JudgingLaws
pub mod KeywordLaws
pub mod NameLaws
pub mod Outcomes
pub mod PolicyFit
pub mod RowLaws
pub mod SlipPlaces
pub mod TargetFit
pub mod TargetWords
pub mod TermFit
pub mod ValueLaws
