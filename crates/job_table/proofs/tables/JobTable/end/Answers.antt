use Rattle.job_table.proofs.SeatLemmas.{seated_set, seated_nobody}
use Rattle.job_table.proofs.tables.JobTable.end.Goals as goal

pub invariant_of-self : goal.invariant_of-self
invariant_of-self c = seated_set c.self.inside.jobs.items c.args.job _ c.self.invariant seated_nobody
