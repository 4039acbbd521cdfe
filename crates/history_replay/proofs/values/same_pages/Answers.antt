use Rattle.std.proofs.Common.{refl, arith}
use Rattle.std.proofs.lemmas.List.{same_lists}
use Rattle.history_replay.proofs.values.same_pages.Goals as goal

pub returns : goal.returns
returns c =
    (λ t. same_lists c.args.a.now c.args.b.now (omega arith) (λ k other below. c.loop-place.invariant k other (omega arith)), λ same. refl)
