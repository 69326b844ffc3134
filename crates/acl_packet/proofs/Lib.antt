pub mod ChoiceLaws
pub mod DecimalLaws
pub mod FieldLaws
pub mod NumberWordLaws
pub mod PrefixLaws
