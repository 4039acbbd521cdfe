use Rattle.std.proofs.Common.{◌≡◌, List, ℕ, [], drop, true, false, ap, sym, ◌∙◌, subst}
use Rattle.std.specs.Prelude.{Bool, if◌then◌else◌, ℤ}
use Rattle.job_model.specs.Act.{◌then◌}
use Rattle.job_model.proofs.Follows.{follows_from}
use Rattle.program_model.specs.declared.values.Value.{Value}
use Rattle.program_model.specs.declared.values.Value.TheVariants.{Text}
use Rattle.program_model.specs.Input.{line_act, line_asked, line_on}
use Rattle.program_model.specs.Job.{Job, number}
use Rattle.program_model.specs.OnChannels.{is_terminal}
use Rattle.program_model.specs.Storage.{in_storage, stores_by}
use Rattle.polish_code.specs.Walk.{Spot, Walked, Move, pushed, top}
use Rattle.basic_eval.specs.Acting.{Acts, seen, told}
use Rattle.basic_eval.proofs.AskLemmas.{act_gives, act_stops, follows_acts}
use Rattle.basic_eval.proofs.state.Running.line_on.Goals as goal

abbrev next : List Value → List ℕ → Job Spot → Walked Move
next stack line j = pushed stack (Text line) j

by_kind : (channel : ℤ) (stack : List Value) (j : Job Spot) (b : Bool) → is_terminal channel ≡ b → (line_on channel j then next stack) ≡ ((if b then line_asked [] j else stores_by (line_act channel) j) then next stack)
by_kind channel stack j b is = ap (λ (b : Bool). (if b then line_asked [] j else stores_by (line_act channel) j) then next stack) is

pub returns-then-is_terminal : goal.returns-then-is_terminal
returns-then-is_terminal g c clock =
    let stack = c.args.stack.now in
    let channel = number (top stack) in
    let j = seen c.args.self.now in
    let is : is_terminal channel ≡ true = ap is_terminal (sym c.take_number-channel.ensures.value) ∙ sym c.is_terminal.ensures ∙ c.if-is_terminal.true in
    follows_from (by_kind channel (drop 1 stack) j true is ∙ ap (λ (l : List Value). line_asked [] j then next l) (sym c.take_number-channel.ensures.rest))
    (c.push_key_line.ensures clock)

pub returns-in-Ok : goal.returns-in-Ok
returns-in-Ok g c clock =
    let stack = c.args.stack.now in
    let channel = number (top stack) in
    let j = seen c.args.self.now in
    let t = c.read_line.new.self in
    let k = seen c.push.new.self in
    let r = told c.push.new.self.exit c.push.new.stack c.push.result in
    let is : is_terminal channel ≡ false = ap is_terminal (sym c.take_number-channel.ensures.value) ∙ sym c.is_terminal.ensures ∙ c.if-is_terminal.false in
    follows_from (by_kind channel (drop 1 stack) j false is)
    (act_gives (line_act channel) j (next (drop 1 stack)) t c.in-Ok.line (follows_from (ap (λ (n : ℤ). line_act n c.args.self.now.storage) (sym c.take_number-channel.ensures.value)) (c.in-Ok.ensures clock))
    (follows_acts r k (subst (λ (l : List Value). Acts (pushed l (Text c.in-Ok.line) (in_storage.with_part j t)) k r) c.take_number-channel.ensures.rest c.push.ensures)))

pub returns-in-Err : goal.returns-in-Err
returns-in-Err g c clock =
    let stack = c.args.stack.now in
    let channel = number (top stack) in
    let j = seen c.args.self.now in
    let is : is_terminal channel ≡ false = ap is_terminal (sym c.take_number-channel.ensures.value) ∙ sym c.is_terminal.ensures ∙ c.if-is_terminal.false in
    rw (c.go_out.ensures.out, c.go_out.ensures.why, c.go_out.ensures.state, c.exit_at.ensures)
    (follows_from (by_kind channel (drop 1 stack) j false is)
    (act_stops (line_act channel) j (next (drop 1 stack)) c.read_line.new.self c.in-Err.stop (follows_from (ap (λ (n : ℤ). line_act n c.args.self.now.storage) (sym c.take_number-channel.ensures.value)) (c.in-Err.ensures clock))))
