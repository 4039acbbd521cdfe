use Rattle.std.proofs.Common.{List, ℕ, Ok, Err}
use Rattle.monitor_calls.specs.declared.calls.Request.TheVariants as request
use Rattle.job_model.specs.Act.{◌then◌}
use Rattle.job_model.proofs.Follows.{follows_with, broken}
use Rattle.file_names.specs.declared.spec.Spec.{Spec}
use Rattle.program_model.specs.FileActs.{is_tested, file_said, asks_done}
use Rattle.program_model.specs.Storage.{StorageAct}
use Rattle.job_storage.proofs.Asked.{follows_tested}
use Rattle.job_storage.proofs.storage.Storage.rename.Goals as goal

abbrev renames : Spec → Spec → StorageAct (Unit {0})
renames old new = asks_done (request.Rename old.name new.name new.code)

abbrev next : List ℕ → Spec → StorageAct (Unit {0})
next text old s = is_tested (file_said text s) s then renames old

pub returns-in_err-old : goal.returns-in_err-old
returns-in_err-old g c clock =
    let s = c.args.self.now in
    broken c.in_err-old.field-0.0 c.from_residual.result s (next c.args.new.now) c.from_residual.ensures.1
    (follows_tested (Err c.in_err-old.field-0.0) s (is_tested (file_said c.args.old.now s) s) (c.in_err-old.ensures s))

pub returns-in_err-new : goal.returns-in_err-new
returns-in_err-new g c clock =
    let s = c.args.self.now in
    follows_with (next c.args.new.now) (follows_tested (Ok c.in_ok-old.old) s (is_tested (file_said c.args.old.now s) s) (c.in_ok-old.ensures s))
    (broken c.in_err-new.field-0.0 c.from_residual-in_err-new.result s (renames c.in_ok-old.old) c.from_residual-in_err-new.ensures.1
    (follows_tested (Err c.in_err-new.field-0.0) s (is_tested (file_said c.args.new.now s) s) (c.in_err-new.ensures s)))

pub returns : goal.returns
returns g c clock =
    let s = c.args.self.now in
    follows_with (next c.args.new.now) (follows_tested (Ok c.in_ok-old.old) s (is_tested (file_said c.args.old.now s) s) (c.in_ok-old.ensures s))
    (follows_with (renames c.in_ok-old.old) (follows_tested (Ok c.in_ok-new.new) s (is_tested (file_said c.args.new.now s) s) (c.in_ok-new.ensures s)) (c.ask.ensures clock))
