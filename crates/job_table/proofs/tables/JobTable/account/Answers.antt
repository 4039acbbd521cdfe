use Rattle.std.proofs.Common.{◌≡◌, ◌<◌, length, subst}
use Rattle.std.specs.Prelude.{IfNone}
use Rattle.monitor_model.specs.Jobs.{nobody, job_at}
use Rattle.job_table.proofs.SeatLemmas.{visitor_read}
use Rattle.job_table.proofs.tables.JobTable.account.Goals as goal

pub returns-clause-visitor : goal.returns-clause-visitor
returns-clause-visitor c =
    let read = c.index.result.now in
    let lt : c.args.job < length c.self.inside.jobs.items = rw c.self.view_is c.requires in
    subst (λ jobs. IfNone read.account (job_at jobs c.args.job ≡ nobody)) c.self.view_is (visitor_read c.self.inside.jobs.items c.args.job read c.self.invariant lt c.index.ensures)
