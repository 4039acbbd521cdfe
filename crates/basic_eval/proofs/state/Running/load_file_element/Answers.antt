use Rattle.std.proofs.Common.{List, drop, ap, sym, subst}
use Rattle.job_model.proofs.Follows.{follows_from}
use Rattle.program_model.specs.declared.values.Value.{Value}
use Rattle.program_model.specs.Elements.{read_act}
use Rattle.program_model.specs.Storage.{in_storage}
use Rattle.polish_code.specs.Walk.{pushed, taken}
use Rattle.basic_eval.specs.Acting.{Acts, seen, told}
use Rattle.basic_eval.proofs.AskLemmas.{act_gives, act_stops, follows_acts}
use Rattle.basic_eval.proofs.state.Running.load_file_element.Goals as goal

pub returns-in-Ok : goal.returns-in-Ok
returns-in-Ok g c clock =
    let stack = c.args.stack.now in
    let j = seen c.args.self.now in
    let k = seen c.push.new.self in
    let r = told c.push.new.self.exit c.push.new.stack c.push.result in
    let array = c.args.array.now in
    act_gives (read_act array (taken c.args.count stack)) j (pushed (drop c.args.count stack)) c.read_element.new.self c.in-Ok.value
    (follows_from (ap (λ (vs : List Value). read_act array vs c.args.self.now.storage) (sym c.last.ensures)) (c.in-Ok.ensures clock))
    (follows_acts r k (subst (λ (l : List Value). Acts (pushed l c.in-Ok.value (in_storage.with_part j c.read_element.new.self)) k r) c.drop_last.ensures c.push.ensures))

pub returns-in-Err : goal.returns-in-Err
returns-in-Err g c clock =
    let stack = c.args.stack.now in
    let array = c.args.array.now in
    rw (c.go_out.ensures.out, c.go_out.ensures.why, c.go_out.ensures.state, c.exit_at.ensures)
    (act_stops (read_act array (taken c.args.count stack)) (seen c.args.self.now) (pushed (drop c.args.count stack)) c.read_element.new.self c.in-Err.stop
    (follows_from (ap (λ (vs : List Value). read_act array vs c.args.self.now.storage) (sym c.last.ensures)) (c.in-Err.ensures clock)))
