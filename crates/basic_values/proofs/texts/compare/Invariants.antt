use Rattle.std.proofs.Common.{◌≡◌}
use Rattle.basic_values.specs.Texts.{order_of}
use Rattle.basic_values.proofs.TextLemmas.{order_from}
use Rattle.basic_values.proofs.texts.compare.Given as goal

abbrev pub invariant-loop-place : goal.invariant-loop-place
invariant-loop-place l = order_from l.a l.b l.place ≡ order_of l.a l.b
