use Rattle.std.proofs.Common.{ℕ, List, length, sym, ap, subst, ◌∙◌}
use Rattle.std.proofs.lemmas.List.{length-map}
use Rattle.deck_reader.specs.Seen.{deck_of}
use Rattle.deck_reader.specs.declared.decks.Terminal.{Terminal}
use Rattle.print_spool.specs.Printed.{AreNamed}
use Rattle.report_texts.specs.Names.{names_of}
use Rattle.time_sharing.specs.Written.{output_by}
use Rattle.time_sharing.proofs.WritingLemmas.{run_named, as_many_screens}
use Rattle.time_sharing.proofs.systems.run_and_report.Goals as goal

pub written-requires-clause-as_many : goal.written-requires-clause-as_many
written-requires-clause-as_many g c =
    let terminals = c.in_ok-terminals.terminals.items in
    let ran = c.in_ok-terminals.ran in
    as_many_screens (deck_of c.args.deck) (names_of terminals) ran.screens.items ran.run c.in_ok-terminals.ensures.names c.in_ok-terminals.ensures.run
    ∙ length-map terminals (λ (terminal : Terminal). terminal.name)
    ∙ sym (ap length c.as_slice.ensures.value)

pub written-requires-clause-named : goal.written-requires-clause-named
written-requires-clause-named g c =
    let terminals = c.in_ok-terminals.terminals.items in
    let ran = c.in_ok-terminals.ran in
    subst (λ (shown : List Terminal). AreNamed (names_of shown) ran.run) (sym c.as_slice.ensures.value)
    (run_named (deck_of c.args.deck) (names_of terminals) ran.screens.items ran.run c.in_ok-terminals.ensures.names c.in_ok-terminals.ensures.run)

pub returns : goal.returns
returns g c =
    let ran = c.in_ok-terminals.ran in
    let names = ap names_of c.as_slice.ensures.value ∙ c.in_ok-terminals.ensures.names in
    record {
      screens = ran.screens.items;
      run = c.in_ok-terminals.ensures.run;
      reported = c.in_ok-output.ensures ∙ ap (λ (l : List (List ℕ)). output_by c.args.wanted l ran.run ran.screens.items) names;
    }
