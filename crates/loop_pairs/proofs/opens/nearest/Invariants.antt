use Rattle.std.proofs.Common.{◌≡◌, take}
use Rattle.std.specs.Prelude.{find}
use Rattle.program_model.specs.Program.{same_body}
use Rattle.loop_pairs.specs.Pairs.{opens_seen}
use Rattle.loop_pairs.proofs.opens.nearest.Given as goal

abbrev pub invariant-loop-place : goal.invariant-loop-place
invariant-loop-place l = find (λ o. same_body o.body l.body) (opens_seen (take l.place l.opens)) ≡ find (λ o. same_body o.body l.body) (opens_seen l.opens)
