-- An error of the statement that ran last: the code and the program lead it to the same place.
use Rattle.std.proofs.Common.{◌≡◌, ℕ, List, [], ◌∷◌, Option, Some, None, Result, Ok, Err, refl, sym, ap, ◌∙◌}
use Rattle.basic_values.specs.declared.failures.Trouble.{Trouble}
use Rattle.basic_values.specs.declared.failures.Trouble.TheVariants as trouble
use Rattle.monitor_calls.specs.declared.events.Event.{Event}
use Rattle.job_model.specs.Act.{Gives, Breaks, Faulted, ◌then◌}
use Rattle.job_model.specs.Play.{Clock}
use Rattle.program_model.specs.Program.{Program, Position}
use Rattle.program_model.specs.Job.{Job}
use Rattle.program_model.specs.Control.{Doing, Onward, at_line}
use Rattle.program_model.specs.declared.values.Frame.{Frame}
use Rattle.error_trap.specs.Trapping.{way_out, led as raised_to}
use Rattle.program_model.specs.Traps.{handled, caught, trapped}
use Rattle.program_model.specs.Running.{runs_from, raises_open}
use Rattle.polish_code.specs.Code.{statement_place}
use Rattle.polish_code.specs.Walk.{Spot}
use Rattle.polish_code.specs.Lowered.{lowered, low_leaving, lowers}
use Rattle.basic_eval.specs.declared.exits.Exit.{Exit}
use Rattle.basic_eval.specs.Acting.{break_of, caught_as}
use Rattle.basic_interpreter.specs.Meaning.{Means}
use Rattle.basic_interpreter.proofs.TurnLemmas.{caught_then}
use Rattle.basic_interpreter.proofs.Dims.{low_end, gave, broke}
use Rattle.basic_interpreter.proofs.Meanings.{means_behind, means_broken}

module _ (program : Program) (fault : ℕ) (j : Job Position) (before : Job Spot) (same : lowered program j ≡ before) where
  -- the line that it leads to
  abbrev error : Doing ℕ
  error = trapped (λ line. line) (Breaks (Faulted fault) j)

  abbrev led : ℕ → Job Position → Doing Onward
  led line j = Gives (at_line program line) j

  error_same : caught (λ line. line) (Faulted fault) j.frames (lowered program j) ≡ lowers program error (low_end program)
  error_same = by_frames j.frames
    where
      by_way : (way : Option ℕ) → handled (λ line. line) fault (raised_to fault j.line (statement_place program j.home.start) (record j.trap { place = statement_place program j.trap.place }) way) (lowered program j) ≡ lowers program (handled (λ line. line) fault (raised_to fault j.line j.home.start j.trap way) j) (low_end program)
      by_way None = refl
      by_way (Some handler) = refl

      by_frames : (frames : List Frame) → caught (λ line. line) (Faulted fault) frames (lowered program j) ≡ lowers program (caught (λ line. line) (Faulted fault) frames j) (low_end program)
      by_frames [] = by_way (way_out j.trap.handler j.trap.active)
      by_frames (frame ∷ frames) = refl

  error_low : (r : Result ℕ Exit) (k : Job Spot) → caught (λ line. line) (Faulted fault) before.frames before ≡ caught_as r k → lowers program error (low_end program) ≡ caught_as r k
  error_low r k is = sym error_same ∙ ap (λ (k : Job Spot). caught (λ line. line) (Faulted fault) k.frames k) same ∙ is

  error_leads : trapped (at_line program) (Breaks (Faulted fault) j) ≡ (error then led)
  error_leads = caught_then (at_line program) (Faulted fault) j.frames j

  module _ {P W : Type 0} {who : P → W} {log : P → List Event} where
    -- to the handler's line
    pub raised_on : {p q : P} {c d : Clock} (line : ℕ) (k after : Job Spot) (result : Result (Unit {0}) (Trouble Exit)) → caught (λ line. line) (Faulted fault) before.frames before ≡ Gives line k
        → ((l : Job Position) → lowered program l ≡ k → Means who log p q c d (low_leaving program) (lowered program) (λ most. runs_from program most (at_line program line) l) after result)
        → Means who log p q c d (low_leaving program) (lowered program) (λ most. raises_open program most fault j) after result
    raised_on line k after result is run =
        let found = gave program error line k (error_low (Ok line) k is) in
        means_behind (low_leaving program) (lowered program) (trapped (at_line program) (Breaks (Faulted fault) j)) (λ most o j. runs_from program most o j) (at_line program line) found.0 after result
        (error_leads ∙ ap (λ (m : Doing ℕ). m then led) found.1) (run found.0 found.2)

    -- out of the program
    pub raised_out : {p : P} {c : Clock} (why : Exit) (k : Job Spot) → caught (λ line. line) (Faulted fault) before.frames before ≡ Breaks (break_of why) k
        → Means who log p p c c (low_leaving program) (lowered program) (λ most. raises_open program most fault j) k (Err (trouble.Refused why))
    raised_out why k is =
        let found = broke program error (break_of why) k (error_low (Err why) k is) in
        means_broken (low_leaving program) (lowered program) (trapped (at_line program) (Breaks (Faulted fault) j)) (λ most o j. runs_from program most o j) found.0 found.1 why k
        (error_leads ∙ ap (λ (m : Doing ℕ). m then led) found.2) found.3 found.4
