use Rattle.std.proofs.Common.{◌<◌, length}
use Rattle.job_table.proofs.SeatLemmas.{seated_set_channel}
use Rattle.job_table.proofs.tables.JobTable.set_channel.Goals as goal

pub invariant_of-self : goal.invariant_of-self
invariant_of-self c =
    let lt : c.args.job < length c.self.inside.jobs.items = rw c.self.view_is c.requires.job in
    seated_set_channel c.self.inside.jobs.items c.args.job c.index_mut-kept.result.now c.self.invariant lt c.index_mut-kept.ensures.value c.args.channel c.args.entry (rw c.self.view_is c.requires.known)
