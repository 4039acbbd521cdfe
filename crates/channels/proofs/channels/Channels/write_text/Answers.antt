use Rattle.std.proofs.Common.{List, ℕ, Ok, Err}
use Rattle.job_model.specs.Act.{◌then◌}
use Rattle.job_model.proofs.Follows.{follows_with, broken}
use Rattle.channels.specs.Files.{Files, FilesAct}
use Rattle.channels.specs.Waiting.{settles_due}
use Rattle.channels.specs.TextOut.{gathers}
use Rattle.channels.specs.Seen.{files}
use Rattle.channels.proofs.Calls.{follows_tested}
use Rattle.channels.proofs.channels.Channels.write_text.Goals as goal

abbrev next : List ℕ → ℕ → Files → FilesAct (Unit {0})
next bytes c files = settles_due c files then λ _. gathers c bytes

pub returns-in_err-channel : goal.returns-in_err-channel
returns-in_err-channel g c clock =
    let old = files c.args.self.now c.args.buffers.now in
    broken c.in_err-channel.field-0.0 c.from_residual.result old (next c.args.bytes.now) c.from_residual.ensures.1 (follows_tested (Err c.in_err-channel.field-0.0) old (c.in_err-channel.ensures.judged old))

pub returns-in_err-settle_due : goal.returns-in_err-settle_due
returns-in_err-settle_due g c clock =
    let old = files c.args.self.now c.args.buffers.now in
    follows_with (next c.args.bytes.now) (follows_tested (Ok c.in_ok-channel.channel) old (c.in_ok-channel.ensures.judged old))
    (broken c.in_err-settle_due.field-0.0 c.from_residual-in_err-settle_due.result (files c.settle_due.new.self c.args.buffers.now) (λ _. gathers c.in_ok-channel.channel c.args.bytes.now) c.from_residual-in_err-settle_due.ensures.1 (c.in_err-settle_due.ensures.follows clock))

pub returns : goal.returns
returns g c clock =
    let old = files c.args.self.now c.args.buffers.now in
    follows_with (next c.args.bytes.now) (follows_tested (Ok c.in_ok-channel.channel) old (c.in_ok-channel.ensures.judged old))
    (follows_with (λ _. gathers c.in_ok-channel.channel c.args.bytes.now) (c.in_ok-settle_due.ensures.follows clock) (c.gather.ensures clock))
