use Rattle.std.proofs.Common.{◌≡◌, ℕ, List, vec_len, length, Result, Err, sym, ap, subst, ◌∙◌, arith}
use Rattle.std.specs.Global.{Vec}
use Rattle.std.proofs.lemmas.Result.{err_from_is_err_and}
use Rattle.basic_values.specs.declared.failures.Trouble.{Trouble}
use Rattle.deck_reader.specs.declared.decks.Terminal.{Terminal}
use Rattle.deck_reader.specs.Seen.{deck_of}
use Rattle.history_replay.specs.declared.disputes.Dispute.{Dispute}
use Rattle.time_sharing.specs.InputEnds.{RetoldBy}
use Rattle.time_sharing.proofs.RunLemmas.{one_each}
use Rattle.time_sharing.proofs.RetoldLemmas.{retold, undone}
use Rattle.time_sharing.proofs.SystemLemmas.{names_are}
use Rattle.time_sharing.proofs.runs.replay_deck.Goals as goal

pub replay-requires-clause-one_each : goal.replay-requires-clause-one_each
replay-requires-clause-one_each c =
    let deck = c.args.deck in
    let jobs = c.in_ok-jobs.jobs in
    let count : c.len-count.result ≡ length deck.terminals.items = omega (arith, c.len-count.ensures, deck.terminals.ok.0) in
    one_each deck jobs.items c.in_ok-monitor.monitor _ (vec_len jobs) c.in_ok-jobs.ensures.keys c.in_ok-monitor.ensures.opening count jobs.ok.0

pub returns : goal.returns
returns c =
    let deck = c.args.deck in
    let jobs = c.in_ok-jobs.jobs in
    let count : c.len-count.result ≡ length deck.terminals.items = omega (arith, c.len-count.ensures, deck.terminals.ok.0) in (
      c.in_ok-jobs.ensures.names ∙ names_are deck.terminals.items,
      retold deck jobs.items c.in_ok-monitor.monitor _ (vec_len jobs) c.in_ok-jobs.ensures.keys c.in_ok-monitor.ensures.opening count jobs.ok.0 c.args.history.now c.in_ok-screens.screens.items c.in_ok-screens.ensures,
    )

pub returns-in_err-screens : goal.returns-in_err-screens
returns-in_err-screens c =
    let deck = c.args.deck in
    let jobs = c.in_ok-jobs.jobs in
    let history = c.args.history.now in
    let count : c.len-count.result ≡ length deck.terminals.items = omega (arith, c.len-count.ensures, deck.terminals.ok.0) in
    let p = err_from_is_err_and c.from_residual-in_err-screens.result c.from_residual-in_err-screens.ensures.1 in
    subst (λ (r : Result (Vec Terminal × Vec (List ℕ)) (Trouble Dispute)). RetoldBy (deck_of deck) history r) (sym (p.1 ∙ ap (λ (e : Trouble Dispute). Err e) p.2))
    (undone deck jobs.items c.in_ok-monitor.monitor _ (vec_len jobs) c.in_ok-jobs.ensures.keys c.in_ok-monitor.ensures.opening count jobs.ok.0 history c.in_err-screens.field-0.0 c.in_err-screens.ensures)
