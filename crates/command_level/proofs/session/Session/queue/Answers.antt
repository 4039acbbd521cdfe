use Rattle.std.proofs.Common.{ℕ, ap, sym}
use Rattle.std.specs.Prelude.{Result}
use Rattle.file_names.specs.declared.spec.Spec.{Spec}
use Rattle.session_model.specs.Talk.{queues_by}
use Rattle.job_model.proofs.Follows.{follows_from, follows_same}
use Rattle.command_level.specs.Seen.{seen}
use Rattle.command_level.proofs.session.Session.queue.Goals as goal

pub returns-in-Ok : goal.returns-in-Ok
returns-in-Ok g c clock = follows_from (ap (λ (r : Result Spec ℕ). queues_by r (seen c.args.self.now)) (sym c.in-Ok.ensures)) (c.print.ensures clock)

pub returns-in-Err : goal.returns-in-Err
returns-in-Err g c clock = follows_from (ap (λ (r : Result Spec ℕ). queues_by r (seen c.args.self.now)) (sym c.in-Err.ensures)) (follows_same c.answer.result _ c.answer.ensures)
