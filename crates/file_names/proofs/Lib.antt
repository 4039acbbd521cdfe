mod FrontLemmas
pub mod ReadingLaws
pub mod SpecLaws
pub mod WritingLaws
