use Rattle.std.proofs.Common.{ℕ, Option, Ok, Err}
use Rattle.job_model.proofs.Follows.{follows_with, broken}
use Rattle.channels.specs.Files.{Files, FilesAct, is_open_at}
use Rattle.channels.specs.Openings.{if_opened, closes_on}
use Rattle.channels.specs.Seen.{files}
use Rattle.channels.proofs.Calls.{follows_tested}
use Rattle.channels.proofs.channels.Channels.close_file.Goals as goal

abbrev next : ℕ → Files → FilesAct (Option ℕ)
next c files = if_opened (is_open_at c files.channels) (closes_on c) files

pub returns-in_err-channel : goal.returns-in_err-channel
returns-in_err-channel g c clock =
    let old = files c.args.self.now c.args.buffers.now in
    broken c.in_err-channel.field-0.0 c.from_residual.result old next c.from_residual.ensures.1 (follows_tested (Err c.in_err-channel.field-0.0) old (c.in_err-channel.ensures.judged old))

pub returns : goal.returns
returns g c clock =
    let old = files c.args.self.now c.args.buffers.now in
    follows_with next (follows_tested (Ok c.in_ok-channel.channel) old (c.in_ok-channel.ensures.judged old)) (c.close_if_open.ensures clock)
