use Rattle.std.proofs.Common.{ℕ, ap, sym}
use Rattle.job_model.proofs.Follows.{follows_from, follows_with, broken}
use Rattle.channels.specs.Files.{Files, FilesAct}
use Rattle.channels.specs.Records.{block_or_next, puts_at}
use Rattle.channels.specs.Seen.{files}
use Rattle.channels.proofs.channels.Channels.put_on.Goals as goal

abbrev next : ℕ → ℕ → Unit {0} → Files → FilesAct Unit
next c block u files = puts_at c (block_or_next block c files) files

pub returns-in_err-settle : goal.returns-in_err-settle
returns-in_err-settle g c clock =
    broken c.in_err-settle.field-0.0 c.from_residual.result (files c.settle.new.self c.args.buffers.now) (next c.args.channel c.args.block) c.from_residual.ensures.1 (c.in_err-settle.ensures.follows clock)

pub returns : goal.returns
returns g c clock =
    let settled = files c.settle.new.self c.args.buffers.now in
    follows_with (next c.args.channel c.args.block) (c.in_ok-settle.ensures.follows clock)
    (follows_from (ap (λ (block : ℕ). puts_at c.args.channel block settled) (sym c.block_or_next-block.ensures)) (c.put_at.ensures clock))
