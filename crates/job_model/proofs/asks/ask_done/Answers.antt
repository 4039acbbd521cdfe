use Rattle.std.proofs.Common.{Some, ap, ◌∙◌}
use Rattle.monitor_calls.specs.declared.calls.Reply.{Reply}
use Rattle.job_model.specs.Asking.{counts_as}
use Rattle.job_model.specs.Replies.{done_by}
use Rattle.job_model.proofs.Asked.{follows_answer, follows_unasked}
use Rattle.job_model.proofs.asks.ask_done.Goals as goal

pub returns-in_err-reply-clause-follows : goal.returns-in_err-reply-clause-follows
returns-in_err-reply-clause-follows g c clock = follows_unasked c.from_residual.result tt c.from_residual.ensures.1 c.in_err-reply.ensures.memory

pub returns-clause-follows : goal.returns-clause-follows
returns-clause-follows g c clock =
    let request = c.args.request in
    let reply = c.in_ok-reply.reply in
    follows_answer request reply (λ reply. done_by (counts_as request reply)) c.done_by.result tt c.in_ok-reply.ensures.ok
    (c.done_by.ensures.answer ∙ ap (λ (x : Reply). Some (done_by x)) (c.requires reply))
