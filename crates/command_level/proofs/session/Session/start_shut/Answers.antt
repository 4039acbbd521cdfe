use Rattle.std.proofs.Common.{refl, subst, sym, ap, ◌∙◌, Err}
use Rattle.grammar_machine.specs.MachineJudge.{judge_of}
use Rattle.basic_values.specs.declared.failures.Trouble.{Trouble}
use Rattle.program_model.specs.declared.refusals.LowerRefusal.{LowerRefusal}
use Rattle.lowering.specs.Lowering.{Lowers}
use Rattle.program_model.specs.InMemory.{program_of}
use Rattle.program_model.specs.Soundness.{refusal_of}
use Rattle.std.specs.Prelude.{Option}
use Rattle.polish_code.specs.Lowered.{coded}
use Rattle.session_model.specs.Talk.{begun, runs_chained, program_by, runs_unless}
use Rattle.command_level.proofs.Chained.{run_from, run_lost, run_nothing, run_over, over_spent}
use Rattle.command_level.proofs.Runs.{serves_refused, here_behind}
use Rattle.command_level.proofs.session.Session.start_shut.Goals as goal

pub returns-in_err-begin_run-clause-path : goal.returns-in_err-begin_run-clause-path
returns-in_err-begin_run-clause-path g c count s st = run_lost _ _ c.from_residual.ensures.1

pub returns-in-Ok-clause-path : goal.returns-in-Ok-clause-path
returns-in-Ok-clause-path g c count s st =
    let prog = program_by judge_of s.lines in
    let low = c.in_ok-begin_run.ensures s st in
    let here = here_behind c.begin_run.new.self s prog c.program.result.now.lines.entries low c.program.ensures.trees in
    let sound = sym (ap refusal_of here) ∙ c.in-Ok.ensures.0 in
    run_from (λ most. ap (λ (o : Option LowerRefusal). runs_unless (runs_chained judge_of most (count most)) o prog most c.args.line (begun prog s)) sound)
    (c.start_code.ensures.path count prog (begun prog s) low refl sound refl (c.in-Ok.ensures.1 ∙ ap coded here))

pub returns-in-Err-Refused-clause-path : goal.returns-in-Err-Refused-clause-path
returns-in-Err-Refused-clause-path g c count s st =
    let prog = program_by judge_of s.lines in
    let mid = c.begin_run.new.self in
    let low = c.in_ok-begin_run.ensures s st in
    let here = here_behind mid s prog c.program.result.now.lines.entries low c.program.ensures.trees in
    let refused = subst (λ (e : Trouble LowerRefusal). Lowers (program_of c.program.result.now.lines.entries) (Err e)) c.in-Err-Refused.field-0-is c.in-Err-Refused.ensures in
    run_over count c.refuse.new.self c.refuse.result c.none_ran.result c.none_ran.ensures
    (serves_refused prog (λ most. runs_chained judge_of most (count most)) c.args.line s mid c.refuse.new.self c.in-Err-Refused.refusal c.refuse.result low (sym (ap refusal_of here) ∙ refused) (rw c.in-Err-Refused.field-0-is at c.refuse.ensures))

pub returns-in-Err-NoMemory-clause-path : goal.returns-in-Err-NoMemory-clause-path
returns-in-Err-NoMemory-clause-path g c count s st = run_nothing _

pub returns-in-Ok-clause-units : goal.returns-in-Ok-clause-units
returns-in-Ok-clause-units g c = c.start_code.ensures.units (program_of c.program.result.now.lines.entries) c.in-Ok.ensures.1

pub returns-in-Err-Refused-clause-units : goal.returns-in-Err-Refused-clause-units
returns-in-Err-Refused-clause-units g c = over_spent c.args.clock.now c.args.clock.now c.refuse.result c.none_ran.result c.none_ran.ensures
