use Rattle.monitor_calls.specs.declared.calls.Request.TheVariants as request
use Rattle.job_model.specs.Asking.{counts_as}
use Rattle.program_files.specs.Catalogs.{shown_by}
use Rattle.job_model.proofs.Asked.{follows_unasked}
use Rattle.program_files.proofs.Acts.{follows_told}
use Rattle.program_files.proofs.catalogs.show_file.Goals as goal

pub returns-in_err-reply : goal.returns-in_err-reply
returns-in_err-reply g c clock = follows_unasked c.from_residual.result c.args.screen.now c.from_residual.ensures.1 c.in_err-reply.ensures.memory

pub returns : goal.returns
returns g c clock =
    let asked = request.Directory c.args.owner c.args.index in
    follows_told asked c.in_ok-reply.reply (λ reply. shown_by (counts_as asked reply) c.args.screen.now) c.show_by.result c.show_by.new.screen c.in_ok-reply.ensures.ok (c.show_by.ensures c.args.owner c.args.index)
