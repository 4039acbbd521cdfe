use Rattle.std.proofs.Common.{subst, sym, ap, ◌∙◌, Err}
use Rattle.basic_values.specs.declared.failures.Trouble.{Trouble}
use Rattle.program_model.specs.declared.refusals.LowerRefusal.{LowerRefusal}
use Rattle.program_model.specs.InMemory.{program_of}
use Rattle.program_model.specs.Running.{raises}
use Rattle.lowering.specs.Lowering.{Lowers}
use Rattle.polish_code.specs.Lowered.{coded}
use Rattle.polish_code.specs.Walk.{Spot}
use Rattle.basic_eval.specs.Acting as acting
use Rattle.session_model.specs.Talk as talk
use Rattle.session_model.specs.Talk.{with_job}
use Rattle.command_level.proofs.Chained.{run_nothing, run_reached, over_spent, ran_spent}
use Rattle.command_level.proofs.Runs.{not_refused, program_here}
use Rattle.command_level.proofs.session.Session.raise_fault.Goals as goal

pub returns-in-Ok-clause-path : goal.returns-in-Ok-clause-path
returns-in-Ok-clause-path g c count p s j ran =
    let old = c.args.self.now in
    let here = program_here s.lines old.text c.program.result.now.lines.entries (sym (ap (λ (u : talk.Session Spot). u.lines) ran.low)) c.program.ensures.trees in
    let after = record old { running = c.raise.new.state } in
    run_reached count p s (λ most. raises p most c.args.fault j) after c.raise.result c.ran_to.result c.ran_to.ensures.ok c.ran_to.ensures.memory
    (ap (with_job (acting.seen after.running)) (sym ran.low)) ran.here ran.sound ran.fits
    (c.raise.ensures.meaning p j (c.in-Ok.ensures.1 ∙ ap coded (here ∙ sym ran.here)) (ap (λ (u : talk.Session Spot). u.job) ran.low))

-- the program that ran is not rejected
pub returns-in-Err-Refused-clause-path : goal.returns-in-Err-Refused-clause-path
returns-in-Err-Refused-clause-path g c count p s j ran =
    let old = c.args.self.now in
    let here = program_here s.lines old.text c.program.result.now.lines.entries (sym (ap (λ (u : talk.Session Spot). u.lines) ran.low)) c.program.ensures.trees in
    let refused = subst (λ (e : Trouble LowerRefusal). Lowers (program_of c.program.result.now.lines.entries) (Err e)) c.in-Err-Refused.field-0-is c.in-Err-Refused.ensures in
    absurd (not_refused p (program_of c.program.result.now.lines.entries) c.in-Err-Refused.refusal ran.sound (here ∙ sym ran.here) refused)

pub returns-in-Err-NoMemory-clause-path : goal.returns-in-Err-NoMemory-clause-path
returns-in-Err-NoMemory-clause-path g c count p s j ran = run_nothing _

pub returns-in-Ok-clause-units : goal.returns-in-Ok-clause-units
returns-in-Ok-clause-units g c = ran_spent c.args.clock.now c.raise.new.clock c.raise.result c.ran_to.result c.ran_to.ensures.ok (c.raise.ensures.units (program_of c.program.result.now.lines.entries) c.in-Ok.ensures.1)

pub returns-in-Err-Refused-clause-units : goal.returns-in-Err-Refused-clause-units
returns-in-Err-Refused-clause-units g c = over_spent c.args.clock.now c.args.clock.now c.refuse.result c.none_ran.result c.none_ran.ensures
