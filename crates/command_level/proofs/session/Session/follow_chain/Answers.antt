use Rattle.std.proofs.Common.{ℕ, Some}
use Rattle.grammar_machine.specs.MachineJudge.{judge_of}
use Rattle.job_model.specs.Act.{Gives, Breaks, Faulted}
use Rattle.job_model.proofs.Follows.{follows_from}
use Rattle.program_model.specs.Job.{Job}
use Rattle.program_model.specs.Program.{Program, Position}
use Rattle.program_model.specs.Running.{raises}
use Rattle.session_model.specs.Talk as talk
use Rattle.session_model.specs.Talk.{Step, runs_chained, run_is_over, with_job}
use Rattle.command_level.proofs.Chained.{run_behind, run_over, chain_follows, chain_broke, named_there, over_spent}
use Rattle.command_level.proofs.session.Session.follow_chain.Goals as goal

-- the program continues with an error
abbrev faulted : (ℕ → ℕ) → Program → talk.Session Position → ℕ → ℕ → Job Position → Step Position
faulted count p s most number j = runs_chained judge_of most (count most) p s (raises p most number j)

pub returns-in-Ok-clause-path : goal.returns-in-Ok-clause-path
returns-in-Ok-clause-path g c count p s j ran =
    run_behind (chain_follows (λ most. runs_chained judge_of most (count most)) (faulted count p s) (run_is_over s) s j (Some (Gives c.in-Ok.read tt))
    (follows_from (named_there c.args.self.now p s j _ _ ran.low c.account-own.ensures c.as_bytes.ensures.bytes) (c.in-Ok.ensures c.args.clock.now)))
    (c.chain_to.ensures.path count p (with_job j s) ran.low)

pub returns-in-Fault-clause-path : goal.returns-in-Fault-clause-path
returns-in-Fault-clause-path g c count p s j ran =
    let read = rw c.in-Fault.is at c.in-Err.ensures c.args.clock.now in
    run_behind (chain_follows (λ most. runs_chained judge_of most (count most)) (faulted count p s) (run_is_over s) s j (Some (Breaks (Faulted c.in-Fault.fault) tt))
    (follows_from (named_there c.args.self.now p s j _ _ ran.low c.account-own.ensures c.as_bytes.ensures.bytes) read))
    (c.raise_fault.ensures.path count p s j ran)

pub returns-in_default-clause-path : goal.returns-in_default-clause-path
returns-in_default-clause-path g c count p s j ran =
    run_over count c.end_run_at.new.self c.end_run_at.result c.none_ran.result c.none_ran.ensures
    (chain_broke (λ most. runs_chained judge_of most (count most)) (faulted count p s) c.args.self.now c.end_run_at.new.self p s j c.in-Err.stop c.end_run_at.result ran c.in_default.not-Fault
    (follows_from (named_there c.args.self.now p s j _ _ ran.low c.account-own.ensures c.as_bytes.ensures.bytes) (c.in-Err.ensures c.args.clock.now))
    (rw c.exit_at.ensures at c.end_run_at.ensures))

pub returns-in_default-clause-units : goal.returns-in_default-clause-units
returns-in_default-clause-units g c = over_spent c.args.clock.now c.args.clock.now c.end_run_at.result c.none_ran.result c.none_ran.ensures
