pub mod ClauseSteps
pub mod ParsedLines
pub mod ReadLines
pub mod SentencePlaces
