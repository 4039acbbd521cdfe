use Rattle.std.proofs.Common.{ℕ, take, drop, reverse, ap, ◌∙◌}
use Rattle.basic_eval.specs.Acting.{seen}
use Rattle.basic_eval.proofs.AskLemmas.{ask_passes, ask_stops}
use Rattle.basic_eval.proofs.state.Running.ask_monitor.Goals as goal

pub returns-in-Ok : goal.returns-in-Ok
returns-in-Ok g c clock =
    let stack = c.args.stack.now in
    let count = c.operand_count-count.ensures in
    ask_passes c.args.act.now stack c.last.result.now (seen c.args.self.now) (c.last.ensures ∙ ap (λ (n : ℕ). reverse (take n stack)) count) c.act.new.self
    c.drop_last.new.self (c.drop_last.ensures ∙ ap (λ (n : ℕ). drop n stack) count) (c.in-Ok.ensures clock)

pub returns-in-Err : goal.returns-in-Err
returns-in-Err g c clock =
    let stack = c.args.stack.now in
    rw (c.go_out.ensures.out, c.go_out.ensures.why, c.go_out.ensures.state, c.exit_at.ensures)
    (ask_stops c.args.act.now stack c.last.result.now (seen c.args.self.now) (c.last.ensures ∙ ap (λ (n : ℕ). reverse (take n stack)) c.operand_count-count.ensures) c.act.new.self c.in-Err.stop (c.in-Err.ensures clock))
