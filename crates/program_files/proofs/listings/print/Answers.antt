use Rattle.std.proofs.Common.{List, ℕ, ap, sym}
use Rattle.basic_values.specs.declared.failures.Stop.TheVariants as stop
use Rattle.monitor_calls.specs.declared.calls.Request.TheVariants.{Print}
use Rattle.job_model.specs.Replies.{asks_for, done_by}
use Rattle.job_model.proofs.Follows.{follows_from, follows_nothing, as_returned}
use Rattle.program_files.proofs.listings.print.Goals as goal

pub returns-in_err-text : goal.returns-in_err-text
returns-in_err-text g c clock = as_returned stop.NoMemory c.from_residual.result tt c.from_residual.ensures.1 follows_nothing

pub returns : goal.returns
returns g c clock = follows_from (ap (λ (text : List ℕ). asks_for done_by (Print text)) (sym c.in_ok-text.ensures)) (c.ask_done.ensures.follows clock)
