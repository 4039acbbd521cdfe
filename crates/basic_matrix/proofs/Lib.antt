mod CellLemmas
mod LawLemmas
mod LookupLemmas
mod MatrixExamples
mod RowLemmas
mod StoreLemmas
mod SumLemmas
