use Rattle.std.proofs.Common.{ap, ◌∙◌}
use Rattle.std.specs.List.{flat_map}
use Rattle.program_model.specs.Program.{items_in}
use Rattle.polish_code.specs.KeptCode.{code_kept}
use Rattle.lowering.proofs.CodeLemmas.{code_is}
use Rattle.lowering.proofs.whole.whole_code.Goals as goal

pub returns : goal.returns
returns c =
    ap code_kept c.new.ensures
    ∙ code_is c.listing-listing.result.now c.args.placement.now (record { items = c.in_ok-items.items.items; words = c.in_ok-words.words.items; lines = c.in_ok-lines.lines.items }) c.listing-listing.ensures c.in_ok-items.ensures (c.in_ok-words.ensures ∙ ap (flat_map items_in) c.statements-2.ensures) c.in_ok-lines.ensures
