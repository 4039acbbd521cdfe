use Rattle.std.proofs.Common.{ℕ, sym, ap}
use Rattle.monitor_calls.specs.declared.calls.Request.TheVariants as request
use Rattle.job_model.proofs.Follows.{follows_from}
use Rattle.program_model.specs.FileActs.{asks_done}
use Rattle.job_storage.proofs.storage.Storage.sleep.Goals as goal

pub returns : goal.returns
returns g c clock = follows_from (ap (λ (n : ℕ). asks_done (request.Sleep n) c.args.self.now) (sym c.seconds_of.ensures)) (c.ask.ensures clock)
