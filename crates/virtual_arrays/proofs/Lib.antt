pub mod BlockLemmas
pub mod ElementExamples
pub mod ZeroLemmas
