mod AskingLaws
mod CheckLaws
mod CommandLaws
mod CommandLineLaws
mod NamedDates
mod ToolLaws
mod WorkloadLaws
pub mod PacketTextLaws
