use Rattle.std.proofs.Common.{Ok, Err, ap, sym}
use Rattle.basic_values.specs.declared.failures.Stop.{Stop}
use Rattle.job_model.specs.Follow.{answered_by}
use Rattle.job_model.proofs.Follows.{follows_to}
use Rattle.program_files.proofs.Acts.{closed_at_fault, closed_at_end}
use Rattle.program_files.proofs.channels.close_after.Goals as goal

pub returns-in-Ok : goal.returns-in-Ok
returns-in-Ok g c start clock act f = closed_at_fault c.args.opened c.args.stop c.in-Fault.fault (Ok tt) c.in-Fault.is f (c.in-Ok.ensures clock)

pub returns-in-Err : goal.returns-in-Err
returns-in-Err g c start clock act f =
    follows_to (ap (λ (e : Stop). answered_by (Err e) tt) (sym c.first_told.ensures))
    (closed_at_fault c.args.opened c.args.stop c.in-Fault.fault (Err c.in-Err.closing) c.in-Fault.is f (c.in-Err.ensures clock))

pub returns-in_default : goal.returns-in_default
returns-in_default g c start clock act f = closed_at_end c.args.opened c.args.stop c.in_default.not-Fault f
