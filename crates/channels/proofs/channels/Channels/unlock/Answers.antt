use Rattle.std.proofs.Common.{Ok, Err}
use Rattle.job_model.proofs.Follows.{follows_with, broken}
use Rattle.channels.specs.Transfers.{asks_unlock}
use Rattle.channels.specs.Seen.{files}
use Rattle.channels.proofs.Calls.{follows_tested}
use Rattle.channels.proofs.channels.Channels.unlock.Goals as goal

pub returns-in_err-channel : goal.returns-in_err-channel
returns-in_err-channel g c clock =
    let old = files c.args.self.now c.args.buffers.now in
    broken c.in_err-channel.field-0.0 c.from_residual.result old asks_unlock c.from_residual.ensures.1 (follows_tested (Err c.in_err-channel.field-0.0) old (c.in_err-channel.ensures.judged old))

pub returns : goal.returns
returns g c clock =
    let old = files c.args.self.now c.args.buffers.now in
    follows_with asks_unlock (follows_tested (Ok c.in_ok-channel.channel) old (c.in_ok-channel.ensures.judged old)) (c.ask_unlock.ensures clock old)
