pub mod AddressLaws
pub mod AnswerLaws
pub mod AnsweredLaws
pub mod Bounds
pub mod ByteTables
pub mod CursorLaws
pub mod CutLaws
pub mod DigitLaws
pub mod Dotted
pub mod FrontLaws
pub mod Gaps
pub mod GroupFronts
pub mod GroupSteps
pub mod Groups
pub mod HexPairs
mod HexTable
pub mod ListLaws
pub mod NameSlotLaws
pub mod NoteLaws
mod OctetTable
pub mod OptionStepLaws
pub mod PortLaws
pub mod Printed
pub mod Putting
pub mod Runs
pub mod SignedLaws
pub mod PrefixFronts
