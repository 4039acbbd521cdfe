use Rattle.std.proofs.Common.{List, drop, ap, sym, ◌∙◌}
use Rattle.job_model.specs.Act.{Gives}
use Rattle.job_model.proofs.Follows.{follows_is}
use Rattle.program_model.specs.declared.values.Value.{Value}
use Rattle.program_model.specs.Elements.{write_act}
use Rattle.program_model.specs.Job.{Job}
use Rattle.program_model.specs.Storage.{in_storage}
use Rattle.polish_code.specs.Walk.{Spot, Pass, passed, taken, top}
use Rattle.basic_eval.specs.Acting.{seen}
use Rattle.basic_eval.proofs.AskLemmas.{act_gives, act_stops}
use Rattle.basic_eval.proofs.state.Running.store_file_element.Goals as goal

pub returns-in-Ok : goal.returns-in-Ok
returns-in-Ok g c clock =
    let stack = c.args.stack.now in
    let j = seen c.args.self.now in
    let count = c.args.count in
    let t = c.write_below.new.self.storage in
    act_gives (write_act c.args.array.now (taken count stack) (top (drop count stack))) j (passed (drop count stack)) t tt (c.in-Ok.ensures.act clock)
    (follows_is (ap (λ (l : List Value). Gives (Pass 0 l) (in_storage.with_part j t)) (sym c.drop_last.ensures) ∙ ap (λ (k : Job Spot). Gives (Pass 0 c.drop_last.new.self) k) (sym c.in-Ok.ensures.rest)))

pub returns-in-Err : goal.returns-in-Err
returns-in-Err g c clock =
    let stack = c.args.stack.now in
    let count = c.args.count in
    rw (c.go_out.ensures.out, c.go_out.ensures.why, c.go_out.ensures.state, c.exit_at.ensures, c.in-Err.ensures.rest)
    (act_stops (write_act c.args.array.now (taken count stack) (top (drop count stack))) (seen c.args.self.now) (passed (drop count stack)) c.write_below.new.self.storage c.in-Err.stop (c.in-Err.ensures.act clock))
