pub mod AnsweredFaults
pub mod AnswersThere
pub mod DefinitionsThere
pub mod FaultLineLaws
pub mod LoadLaws
mod LoadSteps
pub mod LoadedLaws
mod LookLaws
pub mod OneAnswer
