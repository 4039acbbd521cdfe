use Rattle.std.proofs.Common.{◌≡◌, ◌++◌, drop}
use Rattle.std.specs.List.{flat_map}
use Rattle.deck_model.specs.Histories.{hex_text}
use Rattle.report_texts.proofs.histories.push_run.Given as goal

abbrev pub invariant-loop-page : goal.invariant-loop-page
invariant-loop-page l =
    l.out.items ++ flat_map hex_text (drop l.page-index l.pages) ≡ l.initial.out.items ++ flat_map hex_text l.pages
