use Rattle.std.proofs.Common.{◌<◌, length}
use Rattle.job_table.proofs.SeatLemmas.{seated_count}
use Rattle.job_table.proofs.tables.JobTable.count.Goals as goal

pub invariant_of-self : goal.invariant_of-self
invariant_of-self c =
    let lt : c.args.job < length c.self.inside.jobs.items = rw c.self.view_is c.requires.job in
    seated_count c.self.inside.jobs.items c.args.job c.index_mut.result.now c.self.invariant lt c.index_mut.ensures.value (rw c.self.view_is c.requires.known)
