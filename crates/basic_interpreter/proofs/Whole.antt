-- RUN: what it leads to after its DIMs.
use Rattle.std.proofs.Common.{◌≡◌, sym, ◌∙◌}
use Rattle.std.specs.Prelude.{ℕ, Option, Result, Err}
use Rattle.basic_values.specs.declared.failures.Trouble.{Trouble}
use Rattle.basic_values.specs.declared.failures.Trouble.TheVariants as trouble
use Rattle.monitor_calls.specs.declared.events.Event.{Event}
use Rattle.job_model.specs.Act.{Gives}
use Rattle.job_model.specs.Play.{Clock}
use Rattle.program_model.specs.Program.{Program, Position, whole}
use Rattle.program_model.specs.Job.{Job}
use Rattle.program_model.specs.Control.{At}
use Rattle.program_model.specs.Running.{dimension_program, begins_with, runs_from, runs_open}
use Rattle.polish_code.specs.Walk.{Spot}
use Rattle.polish_code.specs.Lowered.{lowered, low_leaving}
use Rattle.basic_eval.specs.declared.exits.Exit.{Exit}
use Rattle.basic_eval.specs.Acting.{Acts, break_of}
use Rattle.basic_interpreter.specs.Meaning.{Means}
use Rattle.basic_interpreter.proofs.Dims.{program_same, gave, broke}
use Rattle.basic_interpreter.proofs.Meanings.{means_behind, means_broken, means_nothing}
use Rattle.std.specs.Prelude.{List}

module _ {P W : Type 0} {who : P → W} {log : P → List Event} where
  -- the arrays were made, and the program ran
  pub ran : {old new : P} {c d : Clock} (program : Program) (line : Option ℕ) (j : Job Position) (k after : Job Spot) (result : Result (Unit {0}) (Trouble Exit))
      → dimension_program program (lowered program j) ≡ Gives tt k
      → ((j : Job Position) → lowered program j ≡ k → Means who log old new c d (low_leaving program) (lowered program) (λ most. runs_from program most (At (whole (begins_with program line))) j) after result)
      → Means who log old new c d (low_leaving program) (lowered program) (λ most. runs_open program most line j) after result
  ran program line j k after result made run =
      let found = gave program (dimension_program program j) tt k (sym (program_same program program j) ∙ made) in
      means_behind (low_leaving program) (lowered program) (dimension_program program j) (λ most _ j. runs_from program most (At (whole (begins_with program line))) j) tt found.0 after result found.1 (run found.0 found.2)

  -- one of them was not
  pub stopped : {p : P} {c : Clock} (program : Program) (line : Option ℕ) (j : Job Position) (k : Job Spot) (e : Trouble Exit)
      → Acts (dimension_program program (lowered program j)) k (Err e)
      → Means who log p p c c (low_leaving program) (lowered program) (λ most. runs_open program most line j) k (Err e)
  stopped program line j k (trouble.Refused why) made =
      let found = broke program (dimension_program program j) (break_of why) k (sym (program_same program program j) ∙ made) in
      means_broken (low_leaving program) (lowered program) (dimension_program program j) (λ most _ j. runs_from program most (At (whole (begins_with program line))) j) found.0 found.1 why k found.2 found.3 found.4
  stopped program line j k trouble.NoMemory made = means_nothing (low_leaving program) (lowered program) (λ most. runs_open program most line j) k
