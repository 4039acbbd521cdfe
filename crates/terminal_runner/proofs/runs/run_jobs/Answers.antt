use Rattle.std.proofs.Common.{◌≡◌, List, length, vec_len, arith, sym, ap, subst, ◌∙◌}
use Rattle.monitor_model.specs.History.{after}
use Rattle.monitor_model.specs.State.{State}
use Rattle.terminal_runner.specs.Runs.{AreUnused, does_at, IsRun}
use Rattle.terminal_runner.specs.Seats.{AllCameBack, came_at, seated_from, seated_jobs}
use Rattle.terminal_runner.proofs.Joins.{all_at_gate, all_ended, is_run}
use Rattle.terminal_runner.proofs.Seated.{jobs_are, as_many, as_many_jobs}
use Rattle.terminal_runner.proofs.runs.run_jobs.Goals as goal

pub run_all-requires-clause-seats : goal.run_all-requires-clause-seats
run_all-requires-clause-seats g c κs within =
    let gate = c.in_ok-gate.gate in
    let are = c.in_ok-seated.ensures.seats in
    let here : seated_jobs c.in_ok-seated.seated.items ≡ c.args.jobs.items = ap seated_jobs are ∙ jobs_are gate 0 c.args.jobs.items in
    are ∙ ap (seated_from gate 0) (sym here)

pub run_all-requires-clause-unused : goal.run_all-requires-clause-unused
run_all-requires-clause-unused g c κs within =
    let here : seated_jobs c.in_ok-seated.seated.items ≡ c.args.jobs.items = ap seated_jobs c.in_ok-seated.ensures.seats ∙ jobs_are c.in_ok-gate.gate 0 c.args.jobs.items in
    subst (λ l. AreUnused g.K.Keyboard.keys l) (sym here) c.requires.unused

pub join_all-requires-clause-backs : goal.join_all-requires-clause-backs
join_all-requires-clause-backs g c =
    let seated = c.in_ok-seated.seated.items in
    let backs = c.in_ok-backs.backs.items in
    let many : length backs ≡ length (seated_jobs seated) = omega (arith, c.in_ok-backs.ensures.count, c.in_ok-backs.backs.ok.0, c.in_ok-seated.seated.ok.0, as_many_jobs seated) in
    all_at_gate g.K.Keyboard.which g.K.Keyboard.keys g.B.JobBody.does c.in_ok-gate.gate (seated_jobs seated) backs many c.in_ok-backs.ensures.backs

pub close-run-requires-clause-all : goal.close-run-requires-clause-all
close-run-requires-clause-all g c =
    let gate = c.in_ok-gate.gate in
    let same = as_many gate c.args.jobs.items c.in_ok-seated.seated.items c.in_ok-seated.ensures.seats in
    let count : length c.in_ok-backs.backs.items ≡ vec_len c.args.jobs = omega (arith, c.in_ok-backs.ensures.count, c.in_ok-backs.backs.ok.0, c.in_ok-seated.seated.ok.0, c.args.jobs.ok.0, same) in
    all_ended gate (vec_len c.args.jobs) c.in_ok-backs.backs.items c.split_all.new.spare c.join_all.new.spare c.in_ok-keyboards.keyboards.items c.in_ok-keyboards.screens.items c.in_ok-keyboards.ensures c.in_ok-seated.ensures.spare count

pub returns-clause-run : goal.returns-clause-run
returns-clause-run g c =
    let does = g.B.JobBody.does in
    let which = g.K.Keyboard.which in
    let keys = g.K.Keyboard.keys in
    let gate = c.in_ok-gate.gate in
    let jobs = c.args.jobs.items in
    let keyboards = c.in_ok-keyboards.keyboards.items in
    let screens = c.in_ok-keyboards.screens.items in
    let history = c.close-run.result.0 in
    let same = as_many gate jobs c.in_ok-seated.seated.items c.in_ok-seated.ensures.seats in
    let here : seated_jobs c.in_ok-seated.seated.items ≡ jobs = ap seated_jobs c.in_ok-seated.ensures.seats ∙ jobs_are gate 0 jobs in
    let came = subst (λ l. AllCameBack (came_at which keys does gate l) c.in_ok-backs.backs.items) here c.in_ok-backs.ensures.backs in
    let count : length c.in_ok-backs.backs.items ≡ vec_len c.args.jobs = omega (arith, c.in_ok-backs.ensures.count, c.in_ok-backs.backs.ok.0, c.in_ok-seated.seated.ok.0, c.args.jobs.ok.0, same) in
    subst (λ (m : State). IsRun (does_at which keys does jobs keyboards) m (vec_len c.args.jobs) screens history) c.in_ok-gate.ensures.opening
    (is_run which keys does gate jobs history (vec_len c.args.jobs) c.in_ok-backs.backs.items c.split_all.new.spare c.join_all.new.spare keyboards screens c.in_ok-keyboards.ensures c.in_ok-seated.ensures.spare count came c.close-run.ensures.history)

pub returns-clause-monitor : goal.returns-clause-monitor
returns-clause-monitor g c =
    c.close-run.ensures.monitor ∙ ap (λ (m : State). after m c.close-run.result.0) c.in_ok-gate.ensures.opening
