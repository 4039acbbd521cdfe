use Rattle.std.proofs.Common.{ap, sym, ◌∙◌}
use Rattle.job_model.proofs.Follows.{follows_from}
use Rattle.channels.specs.Seen.{files}
use Rattle.channels.specs.Waiting.{settles_due}
use Rattle.channels.proofs.Gathered.{gathers_run}
use Rattle.channels.proofs.channels.Channels.gather_run.Goals as goal

pub returns-clause-follows : goal.returns-clause-follows
returns-clause-follows g c clock =
    let old = files c.args.self.now c.args.buffers.now in
    follows_from (gathers_run c.args.channel c.args.run.now old c.keep_run.ensures.among c.requires.some c.requires.fits ∙ ap (settles_due c.args.channel) (sym c.keep_run.ensures.kept))
    (c.settle_due.ensures.follows clock)
