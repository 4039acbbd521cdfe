use Rattle.monitor_calls.specs.declared.calls.Request.TheVariants as request
use Rattle.job_model.specs.Asking.{counts_as}
use Rattle.job_model.specs.Replies.{pages_by}
use Rattle.job_model.proofs.Asked.{follows_answer, follows_unasked}
use Rattle.job_model.proofs.asks.ask_record.Goals as goal

pub returns-in_err-reply-clause-follows : goal.returns-in_err-reply-clause-follows
returns-in_err-reply-clause-follows g c clock = follows_unasked c.from_residual.result tt c.from_residual.ensures.1 c.in_err-reply.ensures.memory

pub returns-clause-follows : goal.returns-clause-follows
returns-clause-follows g c clock =
    let asked = request.GetRecord c.args.channel c.args.block c.args.count in
    follows_answer asked c.in_ok-reply.reply (λ reply. pages_by (counts_as asked reply)) c.pages_by.result tt c.in_ok-reply.ensures.ok
    (c.pages_by.ensures.answer c.args.channel)
