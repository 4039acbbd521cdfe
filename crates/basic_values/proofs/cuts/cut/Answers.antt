use Rattle.std.proofs.Common.{sym}
use Rattle.basic_values.proofs.PlaceLemmas.{cut_found, cut_missed}
use Rattle.basic_values.proofs.cuts.cut.Goals as goal

pub returns-in_err-at-clause-parts : goal.returns-in_err-at-clause-parts
returns-in_err-at-clause-parts c =
    rw c.from_residual.ensures (cut_missed c.args.byte c.args.text.now (sym c.in_err-at.ensures.place))

pub returns-clause-parts : goal.returns-clause-parts
returns-clause-parts c = cut_found c.args.byte c.args.text.now c.in_ok-at.at (sym c.in_ok-at.ensures.place)
