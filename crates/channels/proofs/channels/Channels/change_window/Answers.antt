use Rattle.job_model.proofs.Follows.{follows_with, broken}
use Rattle.channels.specs.Windows.{reads_window}
use Rattle.channels.specs.Seen.{files}
use Rattle.channels.proofs.channels.Channels.change_window.Goals as goal

pub returns-in_err-settle : goal.returns-in_err-settle
returns-in_err-settle g c clock =
    broken c.in_err-settle.field-0.0 c.from_residual.result (files c.settle.new.self c.args.buffers.now) (λ _. reads_window c.args.channel c.args.block c.args.writing) c.from_residual.ensures.1 (c.in_err-settle.ensures.follows clock)

pub returns : goal.returns
returns g c clock =
    follows_with (λ _. reads_window c.args.channel c.args.block c.args.writing) (c.in_ok-settle.ensures.follows clock) (c.read_window.ensures clock)
