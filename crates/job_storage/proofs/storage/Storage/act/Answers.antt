use Rattle.std.proofs.Common.{List, ℕ, map, drop, sym, ap, ◌∙◌}
use Rattle.std.specs.Prelude.{ℤ}
use Rattle.basic_tree.specs.declared.names.Name.{Name}
use Rattle.job_model.proofs.Follows.{follows_from}
use Rattle.program_model.specs.declared.file_acts.FileAct.{FileAct}
use Rattle.program_model.specs.declared.values.Value.{Value}
use Rattle.program_model.specs.FileActs.{field_act, kill_act, rename_act, act_by}
use Rattle.program_model.specs.Functions.{number_at, text_at}
use Rattle.program_model.specs.Job.{number}
use Rattle.job_storage.proofs.Asked.{follows_left}
use Rattle.job_storage.proofs.storage.Storage.act.Goals as goal

pub returns-in-ShutAll : goal.returns-in-ShutAll
returns-in-ShutAll g c clock = rw c.in-ShutAll.is (c.shut_all.ensures clock)

pub returns-in-Sleep : goal.returns-in-Sleep
returns-in-Sleep g c clock = rw (c.in-Sleep.is, ← c.number_at-in-Sleep.ensures) (c.sleep.ensures clock)

pub returns-in-Kill : goal.returns-in-Kill
returns-in-Kill g c clock =
    rw c.in-Kill.is (follows_from (ap (λ (t : List ℕ). kill_act t c.args.self.now) (sym c.text_at-in-Kill.ensures.bytes)) (c.kill.ensures clock))

pub returns-in-Rename : goal.returns-in-Rename
returns-in-Rename g c clock =
    rw c.in-Rename.is
    (follows_from (ap (λ (t : List ℕ). rename_act t (text_at 1 c.args.values.now) c.args.self.now) (sym c.text_at-in-Rename.ensures.bytes))
    (follows_from (ap (λ (t : List ℕ). rename_act c.text_at-in-Rename.result.now t c.args.self.now) (sym c.text_at-in-Rename-2.ensures.bytes)) (c.rename.ensures clock)))

pub returns-in-Field : goal.returns-in-Field
returns-in-Field g c clock =
    let s = c.args.self.now in
    let values = c.args.values.now in
    let names = c.as_slice.result.now in
    let channel = c.number_at-in-Field.result in
    follows_from (ap (λ (act : FileAct). act_by act values s) c.in-Field.is
    ∙ ap (λ (names : List Name). field_act names (number_at 0 values) (map number (drop 1 values)) s) (sym c.as_slice.ensures)
    ∙ ap (λ (channel : ℤ). field_act names channel (map number (drop 1 values)) s) (sym c.number_at-in-Field.ensures)
    ∙ ap (λ (widths : List Value). field_act names channel (map number widths) s) (sym c.behind_first.ensures))
    (follows_left c.field.result c.field.new.self c.field.ensures)
