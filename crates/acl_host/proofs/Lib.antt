pub mod ByteOrder
pub mod Calendar
pub mod DayTextLaws
pub mod NamedDayLaws
