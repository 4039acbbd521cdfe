use Rattle.std.proofs.Common.{List, ℕ, ap, sym}
use Rattle.monitor_calls.specs.declared.calls.Request.TheVariants as request
use Rattle.job_model.specs.Replies.{asks_for, done_by}
use Rattle.job_model.proofs.Follows.{follows_from}
use Rattle.channels.specs.Files.{asks}
use Rattle.channels.proofs.Calls.{follows_asks, follows_unbegun}
use Rattle.channels.proofs.transfers.store_block.Goals as goal

pub returns-in_err-page-clause-follows : goal.returns-in_err-page-clause-follows
returns-in_err-page-clause-follows g c clock files = follows_unbegun c.from_residual.result files c.from_residual.ensures.1

pub returns-clause-follows : goal.returns-clause-follows
returns-clause-follows g c clock files =
    follows_from (ap (λ (page : List ℕ). asks (asks_for done_by (request.Put c.args.channel c.args.block page)) files) (sym c.in_ok-page.ensures))
    (follows_asks (asks_for done_by (request.Put c.args.channel c.args.block c.in_ok-page.page)) c.ask_done.result files (c.ask_done.ensures.follows clock))
