use Rattle.std.proofs.Common.{◌≡◌, List, ℕ, true, false, ap, sym, ◌∙◌}
use Rattle.std.specs.Prelude.{Bool, if◌then◌else◌, ℤ}
use Rattle.job_model.specs.Act.{Gives, ◌then◌}
use Rattle.job_model.proofs.Follows.{follows_from, follows_stay}
use Rattle.program_model.specs.declared.values.Value.{Value}
use Rattle.program_model.specs.Job.{Job}
use Rattle.program_model.specs.OnChannels.{is_terminal}
use Rattle.program_model.specs.Printing.{written}
use Rattle.program_model.specs.PrintingOnChannels.{text_act, writes_on}
use Rattle.program_model.specs.Storage.{stores_by}
use Rattle.polish_code.specs.Walk.{Spot, passed}
use Rattle.basic_eval.specs.Acting.{seen, told}
use Rattle.basic_eval.proofs.AskLemmas.{act_gives, act_stops, follows_acts}
use Rattle.basic_eval.proofs.state.Running.write_on.Goals as goal

by_kind : (channel : ℤ) (bytes : List ℕ) (stack : List Value) (j : Job Spot) (b : Bool) → is_terminal channel ≡ b → (writes_on channel bytes j then passed stack) ≡ ((if b then Gives tt (written bytes j) else stores_by (text_act channel bytes) j) then passed stack)
by_kind channel bytes stack j b is = ap (λ (b : Bool). (if b then Gives tt (written bytes j) else stores_by (text_act channel bytes) j) then passed stack) is

pub returns-then-is_terminal : goal.returns-then-is_terminal
returns-then-is_terminal g c stack clock =
    let is : is_terminal c.args.channel ≡ true = sym c.is_terminal.ensures ∙ c.if-is_terminal.true in
    follows_from (by_kind c.args.channel c.args.bytes.now stack (seen c.args.self.now) true is)
    (follows_acts (told c.print_bytes.new.self.exit stack c.print_bytes.result) (seen c.print_bytes.new.self) (c.print_bytes.ensures stack))

pub returns-in-Ok : goal.returns-in-Ok
returns-in-Ok g c stack clock =
    let is : is_terminal c.args.channel ≡ false = sym c.is_terminal.ensures ∙ c.if-is_terminal.false in
    follows_from (by_kind c.args.channel c.args.bytes.now stack (seen c.args.self.now) false is)
    (act_gives (text_act c.args.channel c.args.bytes.now) (seen c.args.self.now) (passed stack) c.write_on.new.self tt (c.in-Ok.ensures clock) follows_stay)

pub returns-in-Err : goal.returns-in-Err
returns-in-Err g c stack clock =
    let is : is_terminal c.args.channel ≡ false = sym c.is_terminal.ensures ∙ c.if-is_terminal.false in
    rw (c.go_out.ensures.out, c.go_out.ensures.why, c.go_out.ensures.state, c.exit_at.ensures)
    (follows_from (by_kind c.args.channel c.args.bytes.now stack (seen c.args.self.now) false is)
    (act_stops (text_act c.args.channel c.args.bytes.now) (seen c.args.self.now) (passed stack) c.write_on.new.self c.in-Err.stop (c.in-Err.ensures clock)))
