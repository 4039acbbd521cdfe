use Rattle.std.proofs.Common.{ℕ, List, Ok, Err}
use Rattle.job_model.specs.Act.{◌then◌}
use Rattle.job_model.proofs.Follows.{follows_with, broken}
use Rattle.channels.specs.Files.{Files, FilesAct}
use Rattle.channels.specs.Waiting.{settles}
use Rattle.channels.specs.TextIn.{whole_line}
use Rattle.channels.specs.Seen.{files}
use Rattle.channels.proofs.Calls.{follows_tested}
use Rattle.channels.proofs.channels.Channels.read_line.Goals as goal

abbrev next : ℕ → Files → FilesAct (List ℕ)
next c files = settles c files then λ _. whole_line c

pub returns-in_err-channel : goal.returns-in_err-channel
returns-in_err-channel g c clock =
    let old = files c.args.self.now c.args.buffers.now in
    broken c.in_err-channel.field-0.0 c.from_residual.result old next c.from_residual.ensures.1 (follows_tested (Err c.in_err-channel.field-0.0) old (c.in_err-channel.ensures.judged old))

pub returns-in_err-settle : goal.returns-in_err-settle
returns-in_err-settle g c clock =
    let old = files c.args.self.now c.args.buffers.now in
    follows_with next (follows_tested (Ok c.in_ok-channel.channel) old (c.in_ok-channel.ensures.judged old))
    (broken c.in_err-settle.field-0.0 c.from_residual-in_err-settle.result (files c.settle.new.self c.args.buffers.now) (λ _. whole_line c.in_ok-channel.channel) c.from_residual-in_err-settle.ensures.1 (c.in_err-settle.ensures.follows clock))

pub returns : goal.returns
returns g c clock =
    let old = files c.args.self.now c.args.buffers.now in
    follows_with next (follows_tested (Ok c.in_ok-channel.channel) old (c.in_ok-channel.ensures.judged old))
    (follows_with (λ _. whole_line c.in_ok-channel.channel) (c.in_ok-settle.ensures.follows clock) (c.read_whole.ensures clock))
