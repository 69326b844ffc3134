pub mod DaySteps
pub mod Days
pub mod Files
pub mod NamedDays
pub mod Outside
pub mod Resting
pub mod WholeFiles
pub mod Writing
