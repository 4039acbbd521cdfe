use Rattle.std.proofs.Common.{sym, subst}
use Rattle.std.specs.Prelude.{vec_len}
use Rattle.monitor_model.specs.Jobs.{nobody}
use Rattle.monitor_model.proofs.Tools.{filled}
use Rattle.job_table.specs.Seats.{AreSeated}
use Rattle.job_table.proofs.SeatLemmas.{seated_new}
use Rattle.job_table.proofs.tables.JobTable.new.Goals as goal

pub invariant_of-result : goal.invariant_of-result
invariant_of-result c =
    subst AreSeated (sym (filled c.args.jobs (vec_len c.new-table.result) nobody c.new-table.result.items c.resize.new.self.items c.in_ok-resize.ensures.items c.new-table.ensures.items c.new-table.ensures.len)) (seated_new c.args.jobs)
