use Rattle.monitor_calls.specs.declared.calls.Request.TheVariants as request
use Rattle.job_model.specs.Replies.{asks_for, block_by}
use Rattle.channels.proofs.Calls.{follows_asks}
use Rattle.channels.proofs.transfers.ask_block.Goals as goal

pub returns-clause-follows : goal.returns-clause-follows
returns-clause-follows g c clock files =
    follows_asks (asks_for block_by (request.Get c.args.channel c.args.block)) c.ask_block.result files (c.ask_block.ensures.follows clock)
