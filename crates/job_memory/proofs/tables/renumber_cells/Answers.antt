use Rattle.std.proofs.Common.{length, arith}
use Rattle.std.specs.Prelude.{pos}
use Rattle.std.proofs.lemmas.List.FromFn.{fill_by_all}
use Rattle.job_memory.specs.declared.contents.Content.TheVariants.{Number}
use Rattle.job_memory.specs.Matrices.{renumbered_cell, number_in_list}
use Rattle.job_memory.proofs.tables.renumber_cells.Goals as goal

pub returns : goal.returns
returns c =
    fill_by_all (renumbered_cell (number_in_list c.args.numbers.now) c.args.second c.args.cells.now) c.loop-place.cells (length c.args.cells.now) (Number (pos 0))
    c.loop-place.invariant.long (λ k below. c.loop-place.invariant.done k (omega arith))
