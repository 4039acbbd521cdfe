use Rattle.std.proofs.Common.{◌∙◌, slice_set, ap, sym, arith}
use Rattle.std.specs.Prelude.{map}
use Rattle.std.specs.Option.{option_map}
use Rattle.std.proofs.lemmas.List.Edits.{map_over_more}
use Rattle.job_memory.specs.Contents.{forgotten}
use Rattle.job_memory.proofs.fielded.forget_rows.Goals as goal

pub loop-row-preserved : goal.loop-row-preserved
loop-row-preserved c =
    ap (λ x. slice_set c.loop-row.rows c.loop-row.row-index x) (c.forget_row.ensures ∙ ap (map (option_map (forgotten c.args.closed))) (sym c.row-item.is))
    ∙ map_over_more (map (option_map (forgotten c.args.closed))) c.args.rows.now c.loop-row.rows c.loop-row.row-index c.row-item.result (omega arith) c.loop-row.invariant c.row-item.is
