use Rattle.monitor_calls.specs.declared.calls.Request.TheVariants as request
use Rattle.job_model.specs.Asking.{counts_as}
use Rattle.job_model.specs.Replies.{opened_by}
use Rattle.job_model.proofs.Asked.{follows_answer, follows_unasked}
use Rattle.job_model.proofs.asks.ask_open.Goals as goal

pub returns-in_err-reply : goal.returns-in_err-reply
returns-in_err-reply g c clock = follows_unasked c.from_residual.result tt c.from_residual.ensures.1 c.in_err-reply.ensures.memory

pub returns : goal.returns
returns g c clock =
    let asked = request.OpenFile c.args.channel c.args.name c.args.kind c.args.update c.args.code in
    follows_answer asked c.in_ok-reply.reply (λ reply. opened_by (counts_as asked reply)) c.opened_by.result tt c.in_ok-reply.ensures.ok
    (c.opened_by.ensures c.args.channel c.args.name c.args.kind c.args.update c.args.code)
