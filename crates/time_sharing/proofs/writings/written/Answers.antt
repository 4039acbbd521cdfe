use Rattle.std.proofs.Common.{◌++◌, List, length, sym, ap, subst, ◌∙◌}
use Rattle.monitor_calls.specs.declared.calls.Entry.{Entry}
use Rattle.deck_model.specs.Report.{report}
use Rattle.deck_model.specs.Histories.{history_text}
use Rattle.print_spool.specs.Printed.{AreNamed, printed_text}
use Rattle.report_texts.specs.Names.{names_of}
use Rattle.time_sharing.specs.Headline.{where_wanted}
use Rattle.time_sharing.proofs.writings.written.Goals as goal

pub report-requires : goal.report-requires
report-requires c = ap length c.as_slice.ensures.value ∙ c.requires.as_many

pub push_wanted_listings-requires : goal.push_wanted_listings-requires
push_wanted_listings-requires c = subst (λ (history : List Entry). AreNamed (names_of c.args.terminals.now) history) (sym c.as_slice-history.ensures) c.requires.named

pub returns : goal.returns
returns c =
    let wanted = c.args.wanted in
    let names = names_of c.args.terminals.now in
    let history = c.args.ran.now.run in
    c.in_ok-push_wanted_listings.ensures
    ∙ (λ i. c.in_ok-push_wanted_history.ensures i ++ where_wanted wanted.printer (printed_text names (c.as_slice-history.ensures i)))
    ∙ (λ i. (c.in_ok-output.ensures i ++ where_wanted wanted.history (history_text (c.as_slice-history.ensures i))) ++ where_wanted wanted.printer (printed_text names history))
    ∙ (λ i. (report names (c.as_slice.ensures.value i) ++ where_wanted wanted.history (history_text history)) ++ where_wanted wanted.printer (printed_text names history))
