use Rattle.std.proofs.Common.{None, ap, ◌∙◌}
use Rattle.job_memory.specs.Slots.{slot_in}
use Rattle.job_memory.proofs.SlotLemmas.{get_or-push_default}
use Rattle.job_memory.proofs.slots.reach_slot.Goals as goal

pub loop-slots-preserved : goal.loop-slots-preserved
loop-slots-preserved g c = λ k. ap (λ row. slot_in row k) c.in_ok-push.ensures.items ∙ get_or-push_default c.loop-slots.slots.items None k ∙ c.loop-slots.invariant k
