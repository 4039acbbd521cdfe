use Rattle.std.proofs.Common.{sym, subst}
use Rattle.terminal_runner.specs.Keyboards.{taken_of}
use Rattle.terminal_runner.specs.Runs.{AreUnused}
use Rattle.terminal_runner.proofs.Seated.{unused_push}
use Rattle.time_sharing.proofs.runs.part.Goals as goal

pub returns-clause-unused : goal.returns-clause-unused
returns-clause-unused c = λ are.
    subst (λ l. AreUnused taken_of l) (sym c.in_ok-push.ensures.items) (unused_push taken_of c.args.jobs.now.items _ are c.new.ensures.none)
