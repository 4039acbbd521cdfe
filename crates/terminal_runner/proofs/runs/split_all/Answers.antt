use Rattle.std.proofs.Common.{◌≡◌, [], ◌∷◌, ◌++◌, length, rules, ap, ◌∙◌, append_assoc, arith}
use Rattle.std.specs.Vec.Iter.{into_iter_items}
use Rattle.terminal_runner.proofs.Seated.{split_push}
use Rattle.terminal_runner.proofs.runs.split_all.Goals as goal

pub loop-job-preserved : goal.loop-job-preserved
loop-job-preserved g c =
    let at = c.loop-job in
    let job = c.in-Some.job in
    let left = into_iter_items c.next.new.self in
    let steps : into_iter_items at.job-iterator ≡ job ∷ left = c.in-Some.ensures.steps.0 in
    let i = at.invariant in
    let items : c.push_reserved.new.self.items ≡ at.seated.items ++ (c.split-seat.result, job) ∷ [] = search rules in
    let more = split_push c.args.gate.now at.yielded job at.spare c.split-seat.new.spare c.split-seat.result at.seated.items i.2 c.split-seat.ensures.seat c.split-seat.ensures.spare i.3 in (
      append_assoc at.yielded (job ∷ []) left ∙ rw (← steps) i.0,
      let was = i.1 in
          let gone = c.in-Some.ensures.steps.1 in
          let short = ap length steps in
          omega arith,
      more.0,
      items ∙ more.1,
    )
