use Rattle.std.proofs.Common.{◌≡◌, ℕ, ◌<◌, true, length}
use Rattle.job_memory.specs.Matrices.{number_in_list, is_inner, subscripts_at}
use Rattle.basic_matrix.specs.MatrixActs.{at_subscripts}
use Rattle.basic_matrix.specs.MatrixSources.{source_at}
use Rattle.basic_matrix.proofs.sources.Source.fill.Given as goal

abbrev pub invariant-loop-place : goal.invariant-loop-place
invariant-loop-place l = record {
  long : length l.numbers ≡ length l.initial.numbers;
  done : (k : ℕ) → k < l.place → is_inner (subscripts_at l.shape.1 k) ≡ true → number_in_list l.numbers k ≡ at_subscripts (source_at l.self) (subscripts_at l.shape.1 k);
}
