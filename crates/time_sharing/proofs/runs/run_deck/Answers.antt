use Rattle.std.proofs.Common.{◌≡◌, vec_len, length, ◌∙◌, arith}
use Rattle.time_sharing.proofs.RunLemmas.{is_run, one_each}
use Rattle.time_sharing.proofs.SystemLemmas.{names_are}
use Rattle.time_sharing.proofs.runs.run_deck.Goals as goal

pub run_jobs-requires-clause-one_each : goal.run_jobs-requires-clause-one_each
run_jobs-requires-clause-one_each g c κs within =
    let deck = c.args.deck in
    let jobs = c.in_ok-jobs.jobs in
    let count : c.len-count.result ≡ length deck.terminals.items = omega (arith, c.len-count.ensures, deck.terminals.ok.0) in
    one_each deck jobs.items c.in_ok-monitor.monitor _ (vec_len jobs) c.in_ok-jobs.ensures.keys c.in_ok-monitor.ensures.opening count jobs.ok.0

pub returns-clause-names : goal.returns-clause-names
returns-clause-names g c = c.in_ok-jobs.ensures.names ∙ names_are c.args.deck.terminals.items

pub returns-clause-run : goal.returns-clause-run
returns-clause-run g c =
    let deck = c.args.deck in
    let jobs = c.in_ok-jobs.jobs in
    let end = c.in_ok-end.end in
    let count : c.len-count.result ≡ length deck.terminals.items = omega (arith, c.len-count.ensures, deck.terminals.ok.0) in
    is_run deck jobs.items end.keyboards.items c.in_ok-monitor.monitor _ (vec_len jobs) end.screens.items end.run c.in_ok-jobs.ensures.keys c.in_ok-monitor.ensures.opening count jobs.ok.0 c.in_ok-end.ensures.run
