use Rattle.std.proofs.Common.{◌<◌, length}
use Rattle.job_table.proofs.SeatLemmas.{seated_log_in}
use Rattle.job_table.proofs.tables.JobTable.log_in.Goals as goal

pub invariant_of-self : goal.invariant_of-self
invariant_of-self c =
    let lt : c.args.job < length c.self.inside.jobs.items = rw c.self.view_is c.requires in
    seated_log_in c.self.inside.jobs.items c.args.job c.index_mut-entry.result.now c.self.invariant lt c.index_mut-entry.ensures.value c.args.account
