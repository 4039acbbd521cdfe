use Rattle.std.proofs.Common.{◌≡◌, ◌++◌, drop}
use Rattle.deck_model.specs.Report.{report}
use Rattle.report_texts.specs.Names.{names_of}
use Rattle.report_texts.proofs.reports.report.Given as goal

abbrev pub invariant-loop-i : goal.invariant-loop-i
invariant-loop-i l =
    l.out.items ++ report (names_of (drop l.i l.terminals)) (drop l.i l.screens) ≡ report (names_of l.terminals) l.screens
