use Rattle.monitor_calls.specs.declared.calls.Request.TheVariants as request
use Rattle.job_model.specs.Replies.{asks_for, done_by}
use Rattle.channels.proofs.Calls.{follows_asks}
use Rattle.channels.proofs.transfers.ask_unlock.Goals as goal

pub returns : goal.returns
returns g c clock files = follows_asks (asks_for done_by (request.Unlock c.args.channel)) c.ask_done.result files (c.ask_done.ensures.follows clock)
