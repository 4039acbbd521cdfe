pub mod PartLemmas
pub mod TextLemmas
pub mod ZeroLemmas
