use Rattle.std.proofs.Common.{sym, ap, ◌∙◌}
use Rattle.std.specs.Prelude.{Some, Err}
use Rattle.program_model.specs.Program as model
use Rattle.program_model.specs.Program.{whole}
use Rattle.program_model.specs.Control.{At}
use Rattle.program_model.specs.InMemory.{program_of}
use Rattle.program_model.specs.Running.{dimension_program, begins_with}
use Rattle.basic_eval.specs.Acting.{seen}
use Rattle.basic_interpreter.proofs.Beginnings.{onward_whole}
use Rattle.basic_interpreter.proofs.ChainUnits.{dims_spend}
use Rattle.basic_interpreter.proofs.Dims.{acts_along}
use Rattle.basic_interpreter.proofs.Whole.{ran, stopped}
use Rattle.basic_interpreter.proofs.entrances.run_open.Goals as goal

pub returns-in-Ok-clause-meaning : goal.returns-in-Ok-clause-meaning
returns-in-Ok-clause-meaning g c program j text code is =
    ran program c.args.line j (seen c.dimension_program.new.state) _ _
    (ap (dimension_program program) is ∙ ap (λ (p : model.Program). dimension_program p (seen c.args.state.now)) text ∙ c.in-Ok.ensures)
    (λ j low. c.run.ensures.meaning program (At (whole (begins_with program c.args.line))) j code
    (onward_whole program (begins_with program c.args.line) ∙ ap Some (sym (c.begin_place.ensures program code))) low)

pub returns-in-Err-clause-meaning : goal.returns-in-Err-clause-meaning
returns-in-Err-clause-meaning g c program j text code is =
    stopped program c.args.line j (seen c.dimension_program.new.state) c.in-Err.trouble
    (acts_along (Err c.in-Err.trouble) _ _ _ (sym (ap (dimension_program program) is ∙ ap (λ (p : model.Program). dimension_program p (seen c.args.state.now)) text)) c.in-Err.ensures)

pub returns-in-Ok-clause-units : goal.returns-in-Ok-clause-units
returns-in-Ok-clause-units g c program code = c.run.ensures.units program (begins_with program c.args.line) code (c.begin_place.ensures program code)

pub returns-in-Err-clause-units : goal.returns-in-Err-clause-units
returns-in-Err-clause-units g c program code = dims_spend (program_of c.args.lines.now.lines.entries) (seen c.args.state.now) (seen c.dimension_program.new.state) _ _ c.in-Err.trouble c.in-Err.ensures
