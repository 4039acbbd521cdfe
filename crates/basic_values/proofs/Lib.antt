mod BitLemmas
pub mod CutLaws
mod DigitLemmas
mod DivisionLemmas
mod OrderLemmas
pub mod PlaceLemmas
mod RangeLemmas
mod TextLemmas
mod WrapLemmas
