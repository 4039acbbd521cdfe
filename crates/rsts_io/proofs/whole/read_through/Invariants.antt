use Rattle.std.proofs.Common.{◌≡◌, ◌+◌, ◌-◌, ◌≤◌, vec_len}
use Rattle.rsts_io.specs.Ends.{AreNext}
use Rattle.rsts_io.proofs.whole.read_through.Given as goal

abbrev pub invariant-reading : goal.invariant-reading
invariant-reading g l = record {
  few : vec_len l.bytes ≤ l.limit;
  taken : (g.S.Source.state l.source).taken ≡ (g.S.Source.state l.initial.source).taken + vec_len l.bytes;
  next : AreNext l.bytes.items (g.S.Source.state l.initial.source).left (g.S.Source.state l.source).left;
  no_fault : (g.S.Source.state l.source).faults ≡ (g.S.Source.state l.initial.source).faults;
}

abbrev pub decreases-reading : goal.decreases-reading
decreases-reading g l = (l.limit + 1) - vec_len l.bytes
