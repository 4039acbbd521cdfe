use Rattle.std.proofs.Common.{◌≡◌, ℕ, List, ◌++◌, length}
use Rattle.rsts_io.specs.Ends.{Appended}
use Rattle.rsts_io.proofs.whole.give_piece.Given as goal

abbrev pub invariant-loop-rest : goal.invariant-loop-rest
invariant-loop-rest g l = record {
  given : (front : List ℕ) × (l.piece ≡ front ++ l.rest) × Appended front (g.K.Sink.state l.initial.sink).given (g.K.Sink.state l.sink).given;
  no_fault : (g.K.Sink.state l.sink).faults ≡ (g.K.Sink.state l.initial.sink).faults;
}

abbrev pub decreases-loop-rest : goal.decreases-loop-rest
decreases-loop-rest g l = length l.rest
