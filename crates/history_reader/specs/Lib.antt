pub mod Counts
pub mod EndedLines
pub mod HistoryReading
pub mod LineErrors
pub mod LineFields
pub mod LineForms
pub mod ReadingLaw
pub mod SoFar
