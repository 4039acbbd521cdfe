use Rattle.std.proofs.Common.{List, ℕ, drop, ap, sym, ◌∙◌, subst}
use Rattle.job_model.specs.Act.{Gives}
use Rattle.job_model.proofs.Follows.{follows_from, follows_to, follows_stay, follows_then, follows_with}
use Rattle.program_model.specs.declared.values.Value.{Value}
use Rattle.program_model.specs.declared.values.Value.TheVariants.{Text}
use Rattle.program_model.specs.Functions.{text_at}
use Rattle.program_model.specs.Job.{Job}
use Rattle.program_model.specs.Storage.{in_storage}
use Rattle.program_model.specs.SysActs.{sys_act}
use Rattle.polish_code.specs.Walk.{Spot, Walked, pushed, taken}
use Rattle.basic_eval.specs.Acting.{Acts, seen, told}
use Rattle.basic_eval.specs.Keeping.{exit_at}
use Rattle.basic_eval.proofs.AskLemmas.{act_gives, act_stops, follows_acts, past}
use Rattle.basic_eval.proofs.state.Running.apply_sys.Goals as goal

abbrev as_text : List ℕ → Job Spot → Walked Value
as_text text j = Gives (Text text) j

pub returns-in-Ok : goal.returns-in-Ok
returns-in-Ok g c clock =
    let stack = c.args.stack.now in
    let count = c.args.count in
    let j = seen c.args.self.now in
    let k = seen c.push.new.self in
    let r = told c.push.new.self.exit c.push.new.stack c.push.result in
    let asked = sys_act (text_at 0 (taken count stack)) in
    let t = c.sys.new.self in
    let same = ap (text_at 0) (sym c.last.ensures) ∙ sym c.text_at.ensures.bytes in
    follows_with (pushed (drop count stack))
    (act_gives asked j as_text t c.in-Ok.text (follows_from (ap (λ (bytes : List ℕ). sys_act bytes c.args.self.now.storage) same) (c.in-Ok.ensures clock)) follows_stay)
    (follows_acts r k (subst (λ (l : List Value). Acts (pushed l (Text c.in-Ok.text) (in_storage.with_part j t)) k r) c.drop_last.ensures c.push.ensures))

pub returns-in-Err : goal.returns-in-Err
returns-in-Err g c clock =
    let stack = c.args.stack.now in
    let count = c.args.count in
    let j = seen c.args.self.now in
    let asked = sys_act (text_at 0 (taken count stack)) in
    let t = c.sys.new.self in
    let same = ap (text_at 0) (sym c.last.ensures) ∙ sym c.text_at.ensures.bytes in
    rw (c.go_out.ensures.out, c.go_out.ensures.why, c.go_out.ensures.state, c.exit_at.ensures)
    (follows_to (past (pushed (drop count stack)) (exit_at c.in-Err.stop) (in_storage.with_part j t))
    (follows_then (pushed (drop count stack))
    (act_stops asked j as_text t c.in-Err.stop (follows_from (ap (λ (bytes : List ℕ). sys_act bytes c.args.self.now.storage) same) (c.in-Err.ensures clock)))))
