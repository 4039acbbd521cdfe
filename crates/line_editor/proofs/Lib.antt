pub mod BufferLemmas
pub mod CutLemmas
pub mod DigitLemmas
pub mod FileLemmas
pub mod KeepLemmas
mod LineExamples
pub mod MapLemmas
pub mod MarkLemmas
pub mod PageLemmas
pub mod PlaceLemmas
pub mod ProgramLemmas
pub mod ShiftLemmas
pub mod SpellLemmas
