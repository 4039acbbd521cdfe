use Rattle.job_model.specs.Asking.{counts_as}
use Rattle.job_model.proofs.Asked.{follows_unasked}
use Rattle.job_model.proofs.Follows.{follows_on, follows_asked}
use Rattle.program_model.specs.SysActs.{text_by}
use Rattle.job_storage.proofs.Asked.{follows_left}
use Rattle.job_storage.proofs.sys.ask_text.Goals as goal

pub returns-in_err-reply : goal.returns-in_err-reply
returns-in_err-reply g c clock = follows_unasked c.from_residual.result tt c.from_residual.ensures.1 c.in_err-reply.ensures.memory

pub returns : goal.returns
returns g c clock =
    let request = c.args.request in
    let reply = c.in_ok-reply.reply in
    follows_on (follows_asked request reply (λ reply. text_by (counts_as request reply)) c.in_ok-reply.ensures.ok)
    (follows_left c.text_by.result tt (c.text_by.ensures request c.requires c.answer_to-answer.ensures))
