use Rattle.std.proofs.Common.{List, ℕ, ◌++◌, map, ap, sym, subst}
use Rattle.job_model.specs.Act.{Gives, ◌then◌}
use Rattle.job_model.proofs.Follows.{follows_from}
use Rattle.program_model.specs.declared.values.Value.{Value}
use Rattle.program_model.specs.declared.values.Value.TheVariants.{Text}
use Rattle.program_model.specs.Input.{enough, line_asked}
use Rattle.program_model.specs.Items.{items_in_line}
use Rattle.program_model.specs.Job.{Job}
use Rattle.polish_code.specs.Walk.{Spot, Walked, Move, Pass}
use Rattle.basic_eval.specs.Acting.{Acts, seen, told}
use Rattle.basic_eval.proofs.AskLemmas.{key_gives, key_stops}
use Rattle.basic_eval.proofs.state.Running.ask_items.Goals as goal

abbrev next : ℕ → List Value → List ℕ → Job Spot → Walked Move
next count stack line j = enough count (items_in_line line) j then λ items j. Gives (Pass 0 (map Text items ++ stack)) j

pub returns-in-Ok : goal.returns-in-Ok
returns-in-Ok g c clock =
    let stack = c.args.stack.now in
    let s = seen c.ask.new.self in
    let k = seen c.take_items.new.self in
    let r = told c.take_items.new.self.exit c.take_items.new.stack c.take_items.result in
    follows_from (ap (λ (prompt : List ℕ). line_asked prompt (seen c.args.self.now) then next c.args.count stack) (sym c.as_bytes.ensures.bytes))
    (key_gives (next c.args.count stack) c.in-Ok.line s k r (c.in-Ok.ensures clock)
    (subst (λ (line : List ℕ). Acts (next c.args.count stack line s) k r) c.as_bytes-in-Ok.ensures.bytes c.take_items.ensures))

pub returns-in-Err : goal.returns-in-Err
returns-in-Err g c clock =
    rw (c.go_out.ensures.out, c.go_out.ensures.why, c.go_out.ensures.state)
    (follows_from (ap (λ (prompt : List ℕ). line_asked prompt (seen c.args.self.now) then next c.args.count c.args.stack.now) (sym c.as_bytes.ensures.bytes))
    (key_stops (next c.args.count c.args.stack.now) c.in-Err.why (seen c.ask.new.self) (c.in-Err.ensures clock)))
