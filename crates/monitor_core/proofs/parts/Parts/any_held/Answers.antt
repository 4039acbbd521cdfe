use Rattle.std.proofs.Common.{◌+◌, sym, ◌∙◌, arith}
use Rattle.monitor_model.proofs.RecordLemmas.{some_held}
use Rattle.monitor_core.proofs.Records.{one_more_free}
use Rattle.monitor_core.proofs.parts.Parts.any_held.Goals as goal

pub returns-then-is_held_at : goal.returns-then-is_held_at
returns-then-is_held_at c =
    sym (some_held c.args.self.now.holds c.args.job c.args.channel c.args.name.now c.args.count c.args.block (c.args.block + c.loop-place.place) (omega arith) (omega (arith, c.loop-place-test.true)) (sym c.is_held_at.ensures ∙ c.if-is_held_at.true))

pub loop-place-preserved : goal.loop-place-preserved
loop-place-preserved c =
    one_more_free c.args.self.now.holds c.args.job c.args.channel c.args.name.now c.args.block c.loop-place.place c.loop-place.invariant (sym c.is_held_at.ensures ∙ c.if-is_held_at.false)
