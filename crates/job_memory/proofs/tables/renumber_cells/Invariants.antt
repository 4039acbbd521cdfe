use Rattle.std.proofs.Common.{◌≡◌, ℕ, ◌<◌, ◌≤◌, length, get_or}
use Rattle.std.specs.Prelude.{pos}
use Rattle.job_memory.specs.declared.contents.Content.TheVariants.{Number}
use Rattle.job_memory.specs.Matrices.{renumbered_cell, number_in_list}
use Rattle.job_memory.proofs.tables.renumber_cells.Given as goal

abbrev pub invariant-loop-place : goal.invariant-loop-place
invariant-loop-place l = record {
  long : length l.cells ≡ length l.initial.cells;
  done : (k : ℕ) → k < l.place → get_or l.cells k (Number (pos 0)) ≡ renumbered_cell (number_in_list l.numbers) l.second l.initial.cells k;
  left : (k : ℕ) → l.place ≤ k → get_or l.cells k (Number (pos 0)) ≡ get_or l.initial.cells k (Number (pos 0));
}
