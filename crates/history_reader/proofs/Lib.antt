pub mod CountLaws
mod EndedExamples
pub mod EndedLaws
pub mod FieldLaws
pub mod FormLaws
pub mod HistoryLaws
pub mod LineLaws
pub mod RequestLaws
pub mod WordLaws
