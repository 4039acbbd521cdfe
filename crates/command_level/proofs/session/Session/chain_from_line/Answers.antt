use Rattle.std.proofs.Common.{Some}
use Rattle.grammar_machine.specs.MachineJudge.{judge_of}
use Rattle.job_model.specs.Act.{Gives, Faulted}
use Rattle.job_model.proofs.Follows.{follows_from}
use Rattle.session_model.specs.Talk.{reported, runs_chained, with_job}
use Rattle.command_level.proofs.Chained.{serves_behind, run_on, run_lost_on, chain_follows, line_broke, named_there}
use Rattle.command_level.proofs.session.Session.chain_from_line.Goals as goal

pub returns-in_ok-reached-in-Ok : goal.returns-in_ok-reached-in-Ok
returns-in_ok-reached-in-Ok g c p s j low fits =
    serves_behind (chain_follows (λ most. runs_chained judge_of most most) (λ most number j. Gives tt (reported s (Faulted number) j)) (reported s) s j (Some (Gives c.in-Ok.read tt))
    (follows_from (named_there c.args.self.now p s j _ _ low c.account-own.ensures c.as_bytes.ensures.bytes) (c.in-Ok.ensures c.args.clock.now)))
    (run_on c.chain_to.new.self c.follow_chains.new.self c.in_ok-reached-in-Ok.reached c.follow_chains.result (c.in_ok-reached-in-Ok.ensures.path (λ most. most) p (with_job j s) low) c.follow_chains.ensures)

pub returns-in_err-reached-in-Ok : goal.returns-in_err-reached-in-Ok
returns-in_err-reached-in-Ok g c p s j low fits =
    serves_behind (chain_follows (λ most. runs_chained judge_of most most) (λ most number j. Gives tt (reported s (Faulted number) j)) (reported s) s j (Some (Gives c.in-Ok.read tt))
    (follows_from (named_there c.args.self.now p s j _ _ low c.account-own.ensures c.as_bytes.ensures.bytes) (c.in-Ok.ensures c.args.clock.now)))
    (run_lost_on c.chain_to.new.self _ c.in_err-reached-in-Ok.field-0.0 _ _ c.from_residual.ensures.1 (c.in_err-reached-in-Ok.ensures.path (λ most. most) p (with_job j s) low))

pub returns-in-Err : goal.returns-in-Err
returns-in-Err g c p s j low fits =
    line_broke c.args.self.now c.end_line_at.new.self p s j c.in-Err.stop c.end_line_at.result low fits
    (follows_from (named_there c.args.self.now p s j _ _ low c.account-own.ensures c.as_bytes.ensures.bytes) (c.in-Err.ensures c.args.clock.now))
    (rw c.exit_at.ensures at c.end_line_at.ensures)
