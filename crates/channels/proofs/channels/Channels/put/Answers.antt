use Rattle.std.proofs.Common.{ℤ, ℕ, Ok, Err}
use Rattle.job_model.specs.Act.{◌then◌}
use Rattle.job_model.proofs.Follows.{follows_with, broken}
use Rattle.channels.specs.Files.{Files, FilesAct, tested}
use Rattle.channels.specs.Records.{record_named, puts_on}
use Rattle.channels.specs.Seen.{files}
use Rattle.channels.proofs.Calls.{follows_tested}
use Rattle.channels.proofs.channels.Channels.put.Goals as goal

abbrev next : ℤ → ℕ → Files → FilesAct Unit
next block c files = tested (record_named block) files then λ block. puts_on c block

pub returns-in_err-channel : goal.returns-in_err-channel
returns-in_err-channel g c clock =
    let old = files c.args.self.now c.args.buffers.now in
    broken c.in_err-channel.field-0.0 c.from_residual.result old (next c.args.block) c.from_residual.ensures.1 (follows_tested (Err c.in_err-channel.field-0.0) old (c.in_err-channel.ensures.judged old))

pub returns-in_err-block : goal.returns-in_err-block
returns-in_err-block g c clock =
    let old = files c.args.self.now c.args.buffers.now in
    follows_with (next c.args.block) (follows_tested (Ok c.in_ok-channel.channel) old (c.in_ok-channel.ensures.judged old))
    (broken c.in_err-block.field-0.0 c.from_residual-in_err-block.result old (puts_on c.in_ok-channel.channel) c.from_residual-in_err-block.ensures.1 (follows_tested (Err c.in_err-block.field-0.0) old (c.in_err-block.ensures old)))

pub returns : goal.returns
returns g c clock =
    let old = files c.args.self.now c.args.buffers.now in
    follows_with (next c.args.block) (follows_tested (Ok c.in_ok-channel.channel) old (c.in_ok-channel.ensures.judged old))
    (follows_with (puts_on c.in_ok-channel.channel) (follows_tested (Ok c.in_ok-block.block) old (c.in_ok-block.ensures old)) (c.put_on.ensures clock))
