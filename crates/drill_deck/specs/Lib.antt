pub mod DrillDeck
pub mod Tallies
