pub mod AnsweredFaults
pub mod FileListLaws
pub mod OneAnswer
pub mod PlannedTextsLaws
pub mod PlanningLaws
pub mod PreparingLaws
pub mod RemovalLaws
