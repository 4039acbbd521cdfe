use Rattle.std.proofs.Common.{subst}
use Rattle.basic_values.specs.declared.failures.Stop.{Stop}
use Rattle.std.specs.Prelude.{Result}
use Rattle.job_model.specs.Follow.{Follows, answered_by}
use Rattle.program_files.proofs.Acts.{closed_at_value, unclosed_value}
use Rattle.program_files.proofs.channels.close_behind.Goals as goal

pub returns-in_err-close-in-Ok : goal.returns-in_err-close-in-Ok
returns-in_err-close-in-Ok g c start clock act f = unclosed_value c.args.opened c.args.outcome c.in-Ok.value c.in_err-close-in-Ok.field-0.0 c.from_residual.result c.in-Ok.is c.from_residual.ensures.1 f (c.in_err-close-in-Ok.ensures clock)

pub returns-in_ok-close-in-Ok : goal.returns-in_ok-close-in-Ok
returns-in_ok-close-in-Ok g c start clock act f = closed_at_value c.args.opened c.args.outcome c.in-Ok.value c.in-Ok.is f (c.in_ok-close-in-Ok.ensures clock)

pub returns-in-Err : goal.returns-in-Err
returns-in-Err g c start clock act f =
    c.close_after.ensures start clock act (subst (λ (outcome : Result g.row.T.Denot Stop). Follows g.P.Port.who g.P.Port.log start c.args.port.now clock clock act (answered_by outcome tt)) c.in-Err.is f)
