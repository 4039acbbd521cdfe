use Rattle.std.proofs.Common.{arith, rules}
use Rattle.basic_values.proofs.TextLemmas.{order_decided, order_left}
use Rattle.basic_values.proofs.texts.compare.Goals as goal

pub returns-then-left-right : goal.returns-then-left-right
returns-then-left-right c =
    order_decided c.args.a.now c.args.b.now c.loop-place.place _ _ _ _ (omega arith) c.byte_or_space-left.ensures c.byte_or_space-right.ensures (search rules) c.cmp.ensures c.loop-place.invariant

pub loop-place-preserved : goal.loop-place-preserved
loop-place-preserved c =
    order_left c.args.a.now c.args.b.now c.loop-place.place _ _ _ (omega arith) c.byte_or_space-left.ensures c.byte_or_space-right.ensures (search rules) c.loop-place.invariant
