use Rattle.monitor_calls.specs.declared.calls.Request.TheVariants as request
use Rattle.job_model.specs.Replies.{asks_for, opened_by}
use Rattle.channels.proofs.Calls.{follows_asks}
use Rattle.channels.proofs.transfers.ask_open.Goals as goal

pub returns : goal.returns
returns g c clock files =
    follows_asks (asks_for opened_by (request.OpenFile c.args.channel c.args.name c.args.kind c.args.update c.args.code)) c.ask_open.result files (c.ask_open.ensures clock)
