use Rattle.std.proofs.Common.{◌≡◌, ℕ, List, length, sym, ap, subst, ◌∙◌, arith}
use Rattle.monitor_calls.specs.declared.calls.Entry.{Entry}
use Rattle.deck_model.specs.Report.{report}
use Rattle.deck_reader.specs.Seen.{deck_of}
use Rattle.report_texts.specs.Names.{names_of}
use Rattle.time_sharing.specs.InputEnds.{IsRetold}
use Rattle.time_sharing.specs.Replays.{Retells}
use Rattle.time_sharing.specs.Runs.{names_in}
use Rattle.time_sharing.proofs.RetoldLemmas.{wrong_within, entries_within, disputed_within, retells_by}
use Rattle.time_sharing.proofs.replays.run_behind.Goals as goal

pub overflow_cast-line : goal.overflow_cast-line
overflow_cast-line c =
    let wrong = rw c.in-Err-Refused.field-0-is at c.in-Err-Refused.ensures in
    let within = wrong_within c.args.text.now c.in-Err-Refused.good wrong in
    rw c.in-Err-Refused.field-0-is (omega (arith, within, c.requires.lines))

pub overflow_add-line : goal.overflow_add-line
overflow_add-line c =
    let wrong = rw c.in-Err-Refused.field-0-is at c.in-Err-Refused.ensures in
    let within = wrong_within c.args.text.now c.in-Err-Refused.good wrong in
    rw c.in-Err-Refused.field-0-is (omega (arith, within, c.requires.lines))

pub fault_of-requires : goal.fault_of-requires
fault_of-requires c =
    let disputed = rw c.in-Err-Refused-replay_deck.field-0-is at c.in-Err-Refused-replay_deck.ensures in
    let within = disputed_within (deck_of c.args.deck) c.as_slice.result.now c.in-Err-Refused-replay_deck.why disputed in
    let same : length c.as_slice.result.now ≡ length c.in-Ok.history.items = ap length c.as_slice.ensures.value in
    let few = entries_within c.args.text.now c.in-Ok.history.items c.in-Ok.ensures in
    rw c.in-Err-Refused-replay_deck.field-0-is (omega (arith, within, same, few, c.requires.lines))

pub returns : goal.returns
returns c =
    let deck = deck_of c.args.deck in
    let text = c.args.text.now in
    let entries = c.in-Ok.history.items in
    let screens = c.in-Ok-replay_deck.told.1.items in
    let output = c.in_ok-output.output.items in
    let told = c.in-Ok-replay_deck.ensures in
    let reported : output ≡ report (names_in deck) screens =
    c.in_ok-output.ensures ∙ (λ i. report (names_of (c.as_slice-2.ensures.value i)) (c.as_slice-3.ensures.value i)) ∙ ap (λ (names : List (List ℕ)). report names screens) told.0 in
    subst (λ (history : List Entry). Retells history output deck text) (sym c.from_vec.ensures)
    (retells_by deck text entries screens output c.in-Ok.ensures (subst (λ (history : List Entry). IsRetold deck history screens) c.as_slice.ensures.value told.1) reported)
