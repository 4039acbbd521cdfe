use Rattle.std.proofs.Common.{Ok, Err}
use Rattle.job_model.proofs.Follows.{follows_with, broken}
use Rattle.program_model.specs.FileActs.{is_tested, file_said, opens_on}
use Rattle.job_storage.proofs.Asked.{follows_tested}
use Rattle.job_storage.proofs.storage.Storage.open_said.Goals as goal

pub returns-in_err-spec : goal.returns-in_err-spec
returns-in_err-spec g c clock =
    let s = c.args.self.now in
    broken c.in_err-spec.field-0.0 c.from_residual.result s (λ spec. opens_on c.args.kind c.args.channel c.args.how spec) c.from_residual.ensures.1
    (follows_tested (Err c.in_err-spec.field-0.0) s (is_tested (file_said c.args.text.now s) s) (c.in_err-spec.ensures s))

pub returns : goal.returns
returns g c clock =
    let s = c.args.self.now in
    follows_with (λ spec. opens_on c.args.kind c.args.channel c.args.how spec)
    (follows_tested (Ok c.in_ok-spec.spec) s (is_tested (file_said c.args.text.now s) s) (c.in_ok-spec.ensures s)) (c.open_on.ensures clock)
