use Rattle.std.proofs.Common.{ℕ, sym, subst}
use Rattle.history_replay.specs.Lists.{AreOfJobs}
use Rattle.history_replay.proofs.Legality.{legal_jobs}
use Rattle.history_replay.proofs.replays.replay.Goals as goal

pub index_of-requires : goal.index_of-requires
index_of-requires g c =
    subst (λ (n : ℕ). AreOfJobs n c.args.history.now) (sym c.job_count-count.ensures) (legal_jobs c.args.monitor c.args.history.now c.in_ok-after_history.ensures.0)
