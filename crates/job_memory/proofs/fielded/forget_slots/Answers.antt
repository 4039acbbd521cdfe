use Rattle.std.proofs.Common.{◌∙◌, slice_set, ap, sym, arith}
use Rattle.std.specs.Option.{option_map}
use Rattle.std.proofs.lemmas.List.Edits.{map_over_more}
use Rattle.job_memory.specs.Contents.{forgotten}
use Rattle.job_memory.proofs.fielded.forget_slots.Goals as goal

pub loop-slot-preserved : goal.loop-slot-preserved
loop-slot-preserved c =
    ap (λ x. slice_set c.loop-slot.slots c.loop-slot.slot-index x) (c.forget_in.ensures ∙ ap (option_map (forgotten c.args.closed)) (sym c.slot-item.is))
    ∙ map_over_more (option_map (forgotten c.args.closed)) c.args.slots.now c.loop-slot.slots c.loop-slot.slot-index c.slot-item.result (omega arith) c.loop-slot.invariant c.slot-item.is
