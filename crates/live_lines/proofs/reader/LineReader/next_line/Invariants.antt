use Rattle.std.proofs.Common.{◌≡◌, ◌+◌, ◌-◌, vec_len}
use Rattle.std.specs.Prelude.{IsSome}
use Rattle.basic_values.specs.Cuts.{cut}
use Rattle.live_lines.specs.Reading.{TakenFrom}
use Rattle.live_lines.proofs.reader.LineReader.next_line.Given as goal

abbrev pub invariant-reading : goal.invariant-reading
invariant-reading g l = record {
  took : TakenFrom (g.S.Source.state l.initial.source) (g.S.Source.state l.source) l.initial.self-inside.left.items l.self-inside.left.items;
  no_fault : (g.S.Source.state l.source).faults ≡ (g.S.Source.state l.initial.source).faults;
  no_further : IsSome (cut 10 l.initial.self-inside.left.items) → (l.self-inside.left.items ≡ l.initial.self-inside.left.items) × (g.S.Source.state l.source ≡ g.S.Source.state l.initial.source);
}

abbrev pub decreases-reading : goal.decreases-reading
decreases-reading g l = (l.limit + 4097) - vec_len l.self-inside.left
