pub mod FieldLaws
pub mod FormatLaws
pub mod NumberLemmas
pub mod RunLemmas
mod UsingRows
pub mod WritingLemmas
