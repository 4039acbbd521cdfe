use Rattle.std.proofs.Common.{◌≡◌, List, ℕ, drop, Result, Ok, Err, ap, sym, ◌∙◌, drop-drop, subst}
use Rattle.std.specs.Prelude.{Bool, ℤ}
use Rattle.basic_values.specs.declared.failures.Trouble.{Trouble}
use Rattle.job_model.specs.Act.{◌then◌}
use Rattle.job_model.proofs.Follows.{follows_from, follows_stay, follows_nothing}
use Rattle.program_model.specs.declared.values.Value.{Value}
use Rattle.program_model.specs.Job.{Job, number, or_fault, text}
use Rattle.program_model.specs.PrintingOnChannels.{used_bytes, writes_on}
use Rattle.polish_code.specs.Walk.{Spot, Walked, Move, passed, taken, top}
use Rattle.input_items.specs.Items.{Answers}
use Rattle.basic_eval.specs.Acting.{seen}
use Rattle.basic_eval.proofs.state.Running.write_using.Goals as goal

-- what was formed is written, and the stack is left
abbrev goes : ℤ → List Value → Job Spot → Result (List ℕ) ℕ → Walked Move
goes channel stack j used = (or_fault used j then λ bytes j. writes_on channel bytes j) then passed stack

-- what is formed of the stack
used_of : (ends_line : Bool) (format wanted : List ℕ) (vs values : List Value) → format ≡ wanted → vs ≡ values → used_bytes ends_line wanted values ≡ used_bytes ends_line format vs
used_of ends_line format wanted vs values is are = ap (λ (f : List ℕ). used_bytes ends_line f values) (sym is) ∙ ap (λ (l : List Value). used_bytes ends_line format l) (sym are)

pub returns-in-Ok : goal.returns-in-Ok
returns-in-Ok g c clock =
    let stack = c.args.stack.now in
    let count : ℕ = c.args.count in
    let below = drop count stack in
    let j = seen c.args.self.now in
    let bytes = c.in-Ok.bytes in
    let used = used_of c.args.ends_line c.text_below-format.result.now (text (top below)) c.last.result.now (taken count stack) c.text_below-format.ensures c.last.ensures ∙ c.in-Ok.ensures in
    let channel = ap (λ (l : List Value). number (top l)) (drop-drop 1 count stack) ∙ sym c.number_below-channel.ensures in
    let left = drop-drop 2 count stack ∙ sym c.drop_last.ensures in
    follows_from (ap (goes (number (top (drop 1 below))) (drop 2 below) j) used
    ∙ ap (λ (n : ℤ). goes n (drop 2 below) j (Ok bytes)) channel
    ∙ ap (λ (l : List Value). goes c.number_below-channel.result l j (Ok bytes)) left
    ∙ ap (λ (b : List ℕ). writes_on c.number_below-channel.result b j then passed c.drop_last.new.self) (sym c.as_slice.ensures))
    (c.write_on.ensures c.drop_last.new.self clock)

pub returns-in-Err-Refused : goal.returns-in-Err-Refused
returns-in-Err-Refused g c clock =
    let stack = c.args.stack.now in
    let count : ℕ = c.args.count in
    let below = drop count stack in
    let formed = used_bytes c.args.ends_line c.text_below-format.result.now c.last.result.now in
    let used = used_of c.args.ends_line c.text_below-format.result.now (text (top below)) c.last.result.now (taken count stack) c.text_below-format.ensures c.last.ensures
    ∙ subst (λ (why : Trouble ℕ). Answers formed (Err why)) c.in-Err-Refused.field-0-is c.in-Err-Refused.ensures in
    rw (c.go_out.ensures.out, c.go_out.ensures.why, c.go_out.ensures.state, c.in-Err-Refused.fault-is)
    (follows_from (ap (goes (number (top (drop 1 below))) (drop 2 below) (seen c.args.self.now)) used) follows_stay)

pub returns-in-Err-NoMemory : goal.returns-in-Err-NoMemory
returns-in-Err-NoMemory g c clock = rw (c.go_out-in-Err-NoMemory.ensures.out, c.go_out-in-Err-NoMemory.ensures.why) follows_nothing
