mod ColumnExamples
pub mod ColumnLemmas
pub mod CountLemmas
