mod GiveBackLemmas
mod LeastLemmas
mod PlaceLemmas
pub mod SearchLemmas
mod SizeLemmas
mod TableLemmas
