-- What is written of a run, by the names of its terminals. You need not trust this file.
use Rattle.std.specs.Prelude.{ℕ, List, ◌++◌}
use Rattle.monitor_calls.specs.declared.calls.Entry.{Entry}
use Rattle.deck_model.specs.Report.{report}
use Rattle.deck_model.specs.Histories.{history_text}
use Rattle.print_spool.specs.Printed.{printed_text}
use Rattle.program_words.specs.declared.words.Wanted.{Wanted}
use Rattle.time_sharing.specs.Headline.{where_wanted}

abbrev pub output_by : Wanted → List (List ℕ) → List Entry → List (List ℕ) → List ℕ
output_by wanted names history screens =
    report names screens ++ where_wanted wanted.history (history_text history)
    ++ where_wanted wanted.printer (printed_text names history)
