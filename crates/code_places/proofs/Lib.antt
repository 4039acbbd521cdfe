mod PlacementLemmas
pub mod SumLemmas
