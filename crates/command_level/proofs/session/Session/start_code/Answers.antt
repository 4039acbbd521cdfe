use Rattle.std.proofs.Common.{sym, ap, ◌∙◌, Bool}
use Rattle.grammar_machine.specs.MachineJudge.{judge_of}
use Rattle.program_model.specs.Running.{runs_cleared}
use Rattle.program_model.specs.Soundness.{can_begin}
use Rattle.basic_eval.specs.Acting as acting
use Rattle.polish_code.specs.Walk.{Spot}
use Rattle.session_model.specs.Talk as talk
use Rattle.session_model.specs.Talk.{runs_chained, runs_there, with_job}
use Rattle.command_level.proofs.Chained.{run_from, run_lost, run_over, run_reached, over_spent, ran_spent}
use Rattle.command_level.proofs.Runs.{serves_nowhere, no_stop_fits, program_here}
use Rattle.command_level.proofs.session.Session.start_code.Goals as goal

pub returns-in_err-can_begin-clause-path : goal.returns-in_err-can_begin-clause-path
returns-in_err-can_begin-clause-path g c count p s low here sound none code = run_lost _ _ c.from_residual.ensures.1

pub returns-then-not-branch-clause-path : goal.returns-then-not-branch-clause-path
returns-then-not-branch-clause-path g c count p s low here sound none code =
    let same = program_here s.lines c.args.self.now.text c.program.result.now.lines.entries (sym (ap (λ (u : talk.Session Spot). u.lines) low)) c.program.ensures.trees in
    run_over count c.refuse.new.self c.refuse.result c.none_ran.result c.none_ran.ensures
    (serves_nowhere p (λ most. runs_chained judge_of most (count most)) c.args.line (can_begin p c.args.line) s c.args.self.now c.refuse.new.self c.no_line.result c.refuse.result low none
    (ap (λ p. can_begin p c.args.line) (here ∙ sym same) ∙ sym c.in_ok-can_begin.ensures ∙ c.if-not-branch.true) c.no_line.ensures c.refuse.ensures)

pub returns-clause-path : goal.returns-clause-path
returns-clause-path g c count p s low here sound none code =
    let old = c.args.self.now in
    let same = program_here s.lines old.text c.program.result.now.lines.entries (sym (ap (λ (u : talk.Session Spot). u.lines) low)) c.program.ensures.trees in
    let again = program_here s.lines old.text c.program-2.result.now.lines.entries (sym (ap (λ (u : talk.Session Spot). u.lines) low)) c.program-2.ensures.trees in
    run_from (λ most. ap (λ (can : Bool). runs_there (runs_chained judge_of most (count most)) p most c.args.line can s) (ap (λ p. can_begin p c.args.line) (here ∙ sym same) ∙ sym c.in_ok-can_begin.ensures ∙ c.if-not-branch.false))
    (run_reached count p s (λ most. runs_cleared p most c.args.line s.job) (record old { running = c.run_program.new.state }) c.run_program.result c.ran_to.result c.ran_to.ensures.ok c.ran_to.ensures.memory
    (ap (with_job (acting.seen c.run_program.new.state)) (sym low)) here sound (no_stop_fits p s none)
    (c.run_program.ensures.meaning p s.job (here ∙ sym again) code (ap (λ (u : talk.Session Spot). u.job) low)))

pub returns-then-not-branch-clause-units : goal.returns-then-not-branch-clause-units
returns-then-not-branch-clause-units g c p code = over_spent c.args.clock.now c.args.clock.now c.refuse.result c.none_ran.result c.none_ran.ensures

pub returns-clause-units : goal.returns-clause-units
returns-clause-units g c p code = ran_spent c.args.clock.now c.run_program.new.clock c.run_program.result c.ran_to.result c.ran_to.ensures.ok (c.run_program.ensures.units p code)
