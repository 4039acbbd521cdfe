use Rattle.std.proofs.Common.{List, ℕ, ◌++◌, subst}
use Rattle.job_model.specs.Texts.{line_end}
use Rattle.program_model.specs.declared.values.Value.{Value}
use Rattle.program_model.specs.declared.values.Value.TheVariants.{Text}
use Rattle.program_model.specs.Job.{Job}
use Rattle.polish_code.specs.Walk.{Spot, Walked, Move, pushed}
use Rattle.basic_eval.specs.Acting.{Acts, seen, told}
use Rattle.basic_eval.proofs.AskLemmas.{key_gives, key_stops}
use Rattle.basic_eval.proofs.state.Running.ask_line.Goals as goal

abbrev next : List Value → List ℕ → Job Spot → Walked Move
next stack line j = pushed stack (Text (line ++ line_end)) j

pub returns-in-Ok : goal.returns-in-Ok
returns-in-Ok g c clock =
    let stack = c.args.stack.now in
    let s = seen c.ask.new.self in
    let k = seen c.push_ended.new.self in
    let r = told c.push_ended.new.self.exit c.push_ended.new.stack c.push_ended.result in
    key_gives (next stack) c.in-Ok.line s k r (c.in-Ok.ensures clock)
    (subst (λ (line : List ℕ). Acts (next stack line s) k r) c.as_bytes.ensures.bytes c.push_ended.ensures)

pub returns-in-Err : goal.returns-in-Err
returns-in-Err g c clock =
    rw (c.go_out.ensures.out, c.go_out.ensures.why, c.go_out.ensures.state)
    (key_stops (next c.args.stack.now) c.in-Err.why (seen c.ask.new.self) (c.in-Err.ensures clock))
