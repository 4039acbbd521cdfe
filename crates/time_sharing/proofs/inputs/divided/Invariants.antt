use Rattle.std.proofs.Common.{◌≡◌, ◌+◌, ◌≤◌, List, [], ◌++◌, length, ℕ}
use Rattle.deck_model.specs.Lines.{whole_lines, cut_line}
use Rattle.time_sharing.specs.Inputs.{HaveNoEnd}
use Rattle.time_sharing.proofs.inputs.divided.Given as goal

abbrev pub invariant-loop-line : goal.invariant-loop-line
invariant-loop-line l = record {
  front : (front : List ℕ) × (l.input ≡ front ++ l.rest) × (cut_line front ≡ []) × HaveNoEnd (whole_lines front) × (l.lines ≡ length (whole_lines front));
  few : l.lines + length l.rest ≤ length l.input;
}

abbrev pub decreases-loop-line : goal.decreases-loop-line
decreases-loop-line l = length l.rest
