use Rattle.std.proofs.Common.{ap, sym, ◌∙◌}
use Rattle.std.specs.Prelude.{Some}
use Rattle.program_model.specs.Control.{at_line}
use Rattle.program_model.specs.Program.{line_start}
use Rattle.polish_code.specs.Walk as walk
use Rattle.basic_eval.specs.Acting.{seen}
use Rattle.basic_interpreter.proofs.Beginnings.{onward_whole}
use Rattle.basic_interpreter.proofs.ChainUnits.{error_spends}
use Rattle.basic_interpreter.proofs.Raising.{raised_on, raised_out}
use Rattle.basic_interpreter.proofs.entrances.raise_open.Goals as goal

pub returns-in-Ok-clause-meaning : goal.returns-in-Ok-clause-meaning
returns-in-Ok-clause-meaning g c program j code is =
    raised_on program c.args.fault j (seen c.args.state.now) is c.in-Ok.line (seen c.catch.new.self) _ _ c.in-Ok.ensures
    (λ l low. c.run.ensures.meaning program (at_line program c.in-Ok.line) l code
    (onward_whole program (line_start c.in-Ok.line program) ∙ ap Some (sym (c.place_of.ensures ∙ ap (λ (code : walk.Code). code.line c.in-Ok.line) code))) low)

pub returns-in-Err-clause-meaning : goal.returns-in-Err-clause-meaning
returns-in-Err-clause-meaning g c program j code is =
    raised_out program c.args.fault j (seen c.args.state.now) is c.in-Err.why (seen c.catch.new.self) c.in-Err.ensures

pub returns-in-Ok-clause-units : goal.returns-in-Ok-clause-units
returns-in-Ok-clause-units g c program code =
    c.run.ensures.units program (line_start c.in-Ok.line program) code (c.place_of.ensures ∙ ap (λ (code : walk.Code). code.line c.in-Ok.line) code)

pub returns-in-Err-clause-units : goal.returns-in-Err-clause-units
returns-in-Err-clause-units g c program code = error_spends c.args.fault (seen c.args.state.now) (seen c.catch.new.self) _ _ c.in-Err.why c.in-Err.ensures
