use Rattle.std.proofs.Common.{ℕ, sym, ap, ◌∙◌}
use Rattle.std.specs.Prelude.{Option}
use Rattle.program_model.specs.Running.{begins_with}
use Rattle.polish_code.specs.Code.{statement_place}
use Rattle.polish_code.specs.Walk as walk
use Rattle.basic_interpreter.proofs.Beginnings.{first_place}
use Rattle.basic_interpreter.proofs.entrances.begin_place.Goals as goal

pub returns-in-None : goal.returns-in-None
returns-in-None c program code = sym (first_place program) ∙ ap (λ (line : Option ℕ). statement_place program (begins_with program line)) (sym c.in-None.is)

pub returns-in-Some : goal.returns-in-Some
returns-in-Some c program code =
    c.place_of.ensures ∙ ap (λ (code : walk.Code). code.line c.in-Some.line) code
    ∙ ap (λ (line : Option ℕ). statement_place program (begins_with program line)) (sym c.in-Some.is)
