use Rattle.std.proofs.Common.{Ok, Err}
use Rattle.monitor_calls.specs.declared.calls.Request.TheVariants as request
use Rattle.job_model.proofs.Follows.{follows_with, broken}
use Rattle.file_names.specs.declared.spec.Spec.{Spec}
use Rattle.program_model.specs.FileActs.{is_tested, file_said, asks_done}
use Rattle.program_model.specs.Storage.{StorageAct}
use Rattle.job_storage.proofs.Asked.{follows_tested}
use Rattle.job_storage.proofs.storage.Storage.kill.Goals as goal

abbrev next : Spec → StorageAct (Unit {0})
next spec = asks_done (request.Kill spec.name)

pub returns-in_err-spec : goal.returns-in_err-spec
returns-in_err-spec g c clock =
    let s = c.args.self.now in
    broken c.in_err-spec.field-0.0 c.from_residual.result s next c.from_residual.ensures.1
    (follows_tested (Err c.in_err-spec.field-0.0) s (is_tested (file_said c.args.text.now s) s) (c.in_err-spec.ensures s))

pub returns : goal.returns
returns g c clock =
    let s = c.args.self.now in
    follows_with next (follows_tested (Ok c.in_ok-spec.spec) s (is_tested (file_said c.args.text.now s) s) (c.in_ok-spec.ensures s)) (c.ask.ensures clock)
