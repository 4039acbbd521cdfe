mod PlaceExamples
mod SpellingExamples
mod TokenExamples
pub mod FrontLemmas
pub mod GapLemmas
pub mod GapNumberLemmas
pub mod MoveLemmas
pub mod SeamLemmas
pub mod SliceLemmas
pub mod TokenLemmas
pub mod KeywordLemmas
pub mod TableSpelling
pub mod NameSpelling
pub mod LineSpelling
