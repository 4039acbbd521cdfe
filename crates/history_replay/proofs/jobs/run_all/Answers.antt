use Rattle.std.proofs.Common.{◌≡◌, ℕ, ◌<◌, List, [], ◌∷◌, ◌++◌, length, vec_len, Result, Ok, Err, rules, sym, ap, ◌∙◌, subst, append_assoc, arith}
use Rattle.std.specs.Global.{Vec}
use Rattle.std.specs.Vec.Iter.{into_iter_items}
use Rattle.std.proofs.lemmas.List.{length-append, length_push}
use Rattle.std.proofs.lemmas.Result.{err_from_is_err_and}
use Rattle.basic_values.specs.declared.failures.Trouble.{Trouble}
use Rattle.terminal_runner.specs.Runs.{AreUnused, leaves}
use Rattle.history_replay.specs.Disputes.{each_does}
use Rattle.history_replay.specs.declared.disputes.Dispute.{Dispute}
use Rattle.history_replay.specs.Lists.{FirstRan, JobsRan}
use Rattle.history_replay.proofs.Runs.{next_ran, ran_more, ran_err, unused_next}
use Rattle.history_replay.proofs.jobs.run_all.Goals as goal

pub run_one-requires-clause-unused : goal.run_one-requires-clause-unused
run_one-requires-clause-unused g c =
    let at = c.loop-job in
    let keys = g.K.Keyboard.keys in
    let all = into_iter_items c.into_iter-job-iterator.result in
    let all_is : all ≡ c.args.jobs.items = search rules in
    unused_next keys all at.yielded (into_iter_items at.job-iterator) (into_iter_items c.next.new.self) c.in-Some.job at.invariant.0 c.in-Some.ensures.steps.0
    (subst (λ l. AreUnused keys l) (sym all_is) c.requires.unused)

pub returns-in_err-screen : goal.returns-in_err-screen
returns-in_err-screen g c =
    let does = leaves g.K.Keyboard.which g.K.Keyboard.keys g.B.JobBody.does in
    let history = c.args.history.now in
    let at = c.loop-job in
    let all = into_iter_items c.into_iter-job-iterator.result in
    let all_is : all ≡ c.args.jobs.items = search rules in
    let ran : FirstRan (each_does does all) (length at.yielded) history at.screens.items = at.invariant.2 in
    let rest = into_iter_items at.job-iterator in
    let left = into_iter_items c.next.new.self in
    let gone = next_ran does history all at.yielded rest left c.in-Some.job at.screens.items c.len-number.result (Err c.in_err-screen.field-0.0) at.invariant.0 c.in-Some.ensures.steps.0 ran (omega (arith, c.len-number.ensures, at.screens.ok.0)) c.in_err-screen.ensures in
    let below : length at.yielded < vec_len c.args.jobs = omega (arith, length-append at.yielded rest, ap length c.in-Some.ensures.steps.0, ap length at.invariant.0, ap length all_is, c.args.jobs.ok.0) in
    let p = err_from_is_err_and c.from_residual.result c.from_residual.ensures.1 in
    let error = ran_err (each_does does all) history (vec_len c.args.jobs) (length at.yielded) at.screens.items _ below ran gone in
    subst (λ l. JobsRan (each_does does l) (vec_len c.args.jobs) history c.from_residual.result) all_is
    (subst (λ (r : Result (Vec (List ℕ)) (Trouble Dispute)). JobsRan (each_does does all) (vec_len c.args.jobs) history r) (sym (p.1 ∙ ap (λ (e : Trouble Dispute). Err e) p.2)) error)

pub loop-job-preserved : goal.loop-job-preserved
loop-job-preserved g c =
    let does = leaves g.K.Keyboard.which g.K.Keyboard.keys g.B.JobBody.does in
    let history = c.args.history.now in
    let at = c.loop-job in
    let job = c.in-Some.job in
    let screen = c.in_ok-screen.screen in
    let all = into_iter_items c.into_iter-job-iterator.result in
    let left = into_iter_items c.next.new.self in
    let steps : into_iter_items at.job-iterator ≡ job ∷ left = c.in-Some.ensures.steps.0 in
    let done = next_ran does history all at.yielded _ left job at.screens.items c.len-number.result (Ok screen) at.invariant.0 steps at.invariant.2 (omega (arith, c.len-number.ensures, at.screens.ok.0)) c.in_ok-screen.ensures in
    let more = ran_more (each_does does all) history (length at.yielded) at.screens.items screen at.invariant.2 done in (
      append_assoc at.yielded (job ∷ []) left ∙ ap (λ l. at.yielded ++ l) (sym steps) ∙ at.invariant.0,
      let was = at.invariant.1 in
          let gone = c.in-Some.ensures.steps.1 in
          let short = ap length steps in
          omega arith,
      subst (λ (p : ℕ × List (List ℕ)). FirstRan (each_does does all) p.0 history p.1) (λ k. (sym (length_push at.yielded job) k, sym c.in_ok-keep.ensures k)) more,
    )
