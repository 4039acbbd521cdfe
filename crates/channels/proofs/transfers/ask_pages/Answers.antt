use Rattle.std.proofs.Common.{ℕ, ap, sym}
use Rattle.monitor_calls.specs.declared.calls.Request.TheVariants as request
use Rattle.job_model.specs.Replies.{asks_for, pages_by}
use Rattle.job_model.proofs.Follows.{follows_from}
use Rattle.channels.specs.Files.{asks}
use Rattle.channels.proofs.Calls.{follows_asks}
use Rattle.channels.proofs.transfers.ask_pages.Goals as goal

pub returns-clause-follows : goal.returns-clause-follows
returns-clause-follows g c clock files =
    follows_from (ap (λ (n : ℕ). asks (asks_for pages_by (request.GetRecord c.args.channel c.args.block n)) files) (sym c.blocks-2.ensures.is))
    (follows_asks (asks_for pages_by (request.GetRecord c.args.channel c.args.block c.blocks-2.result)) c.ask_record.result files (c.ask_record.ensures.follows clock))
