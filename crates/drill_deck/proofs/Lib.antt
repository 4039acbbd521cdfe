pub mod DeckLemmas
pub mod NameLemmas
