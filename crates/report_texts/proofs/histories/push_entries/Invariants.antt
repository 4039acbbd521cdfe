use Rattle.std.proofs.Common.{◌≡◌, ◌++◌, drop}
use Rattle.deck_model.specs.Histories.{entry_lines}
use Rattle.report_texts.proofs.histories.push_entries.Given as goal

abbrev pub invariant-loop-entry : goal.invariant-loop-entry
invariant-loop-entry l =
    l.out.items ++ entry_lines (drop l.entry-index l.entries) ≡ l.initial.out.items ++ entry_lines l.entries
