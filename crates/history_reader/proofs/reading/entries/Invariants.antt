use Rattle.std.proofs.Common.{ℕ, ◌+◌, ◌≤◌, List, [], length}
use Rattle.history_reader.specs.SoFar.{SoFar}
use Rattle.history_reader.proofs.reading.entries.Given as goal

abbrev pub invariant-loop-rest : goal.invariant-loop-rest
invariant-loop-rest l = record {
  told : (whole : List ℕ) → SoFar whole l.count [] l.text → SoFar whole l.count l.entries.items l.rest;
  few : length l.entries.items + length l.rest ≤ length l.text;
}

abbrev pub decreases-loop-rest : goal.decreases-loop-rest
decreases-loop-rest l = length l.rest
