-- What a call that runs programs has reached, and which session of the definitions the code's
-- represents there.
use Rattle.std.specs.Prelude.{◌≡◌, ◌<◌, ℕ, Bool, true, false, List, Option, Some, None, Result, Ok, Err}
use Rattle.basic_values.specs.declared.failures.NoMemory.{NoMemory}
use Rattle.basic_values.specs.declared.failures.Trouble.{Trouble}
use Rattle.basic_values.specs.declared.failures.Trouble.TheVariants as trouble
use Rattle.grammar_machine.specs.MachineJudge.{judge_of}
use Rattle.monitor_calls.specs.declared.events.Event.{Event}
use Rattle.job_model.specs.Act.{Break, break_over}
use Rattle.job_model.specs.Play.{Clock}
use Rattle.program_model.specs.Program.{Program, Position}
use Rattle.program_model.specs.Job as program
use Rattle.program_model.specs.Job.{Job}
use Rattle.program_model.specs.Soundness.{refusal_of}
use Rattle.polish_code.specs.Lowered.{low_leaving}
use Rattle.basic_eval.specs.declared.exits.Exit.{Exit}
use Rattle.basic_eval.specs.declared.exits.Exit.TheVariants as exit
use Rattle.basic_eval.specs.Acting.{break_of}
use Rattle.basic_interpreter.specs.Units.{units_left}
use Rattle.session_model.specs.Serving.{FollowsSession}
use Rattle.session_model.specs.Talk as talk
use Rattle.session_model.specs.Talk.{Step, ProgramRun, with_job, ends_run, program_by}
use Rattle.command_level.specs.declared.session.Session.{Session}
use Rattle.command_level.specs.declared.session.AfterLine.{AfterLine}
use Rattle.command_level.specs.declared.chains.Reached.{Reached}
use Rattle.command_level.specs.declared.chains.Reached.TheVariants as reached
use Rattle.command_level.specs.Seen.{seen}
use Rattle.command_level.specs.Standing.{low_session, StopFits, LeftBy}

-- a body that is left without a call counts as the end of the program
abbrev pub IsReached : Result (Unit {0}) (Trouble Exit) → Reached → Type 0
IsReached (Ok done) at = at ≡ reached.End exit.Ended
IsReached (Err (trouble.Refused why)) at = at ≡ reached.End why
IsReached (Err trouble.NoMemory) at = ⊥

abbrev pub IsOver : Result AfterLine NoMemory → Result Reached NoMemory → Type 0
IsOver (Ok onward) (Ok at) = at ≡ reached.Over onward
IsOver (Err e) (Err f) = Unit {0}
IsOver (Ok onward) (Err f) = ⊥
IsOver (Err e) (Ok at) = ⊥

abbrev pub is_chain : Reached → Bool
is_chain (reached.End exit.Chained) = true
is_chain other = false

-- a run of this program in a session, whose lines the grammar judges
abbrev pub run_of : ℕ → Program → talk.Session Position → ProgramRun
run_of most p s = record { judge = judge_of; most = most; program = p; session = s }

-- in the code's session this program has run, up to this state of its job
pub record RanIn (session : Session) (p : Program) (s : talk.Session Position) (j : Job Position) : Type 0 where
  pub low : low_session p (with_job j s) ≡ seen session
  pub here : p ≡ program_by judge_of s.lines
  pub sound : refusal_of p ≡ None
  pub fits : StopFits p s

-- and it ended there for this reason
pub record AtEnd (session : Session) (why : Exit) (p : Program) (s : talk.Session Position) (b : Break (program.Leaving Position)) (j : Job Position) : Type 0 where
  pub ran : RanIn session p s j
  pub way : break_over (low_leaving p) b ≡ break_of why

-- What is left there, if this many more programs may chain: what is done at the end of the run, or
-- a line after which the session continues. If memory ran out, nothing is claimed.
abbrev pub LeftRun : (ℕ → ℕ) → Session → Result Reached NoMemory → Option (ℕ → Step Position) → Type 0
LeftRun count session (Ok (reached.End why)) left =
    (p : Program) × (s : talk.Session Position) × (b : Break (program.Leaving Position)) × (j : Job Position)
    × AtEnd session why p s b j × (left ≡ Some (λ most. ends_run (count most) (run_of most p s) b j))
LeftRun count session (Ok (reached.Over onward)) left = LeftBy session (Ok onward) left
LeftRun count session (Err e) left = left ≡ None

-- a call executes what is to be done, up to what is left there
pub record ServesRun {P W : Type 0} (who : P → W) (log : P → List Event) (old new : P) (c d : Clock)
    (count : ℕ → ℕ) (step : ℕ → Step Position) (session : Session) (result : Result Reached NoMemory) : Type 0 where
  pub left : Option (ℕ → Step Position)
  pub leaves : LeftRun count session result left
  pub follows : FollowsSession who log old new c d step left

-- if a CHAIN was reached, a unit was taken
abbrev pub Spent : Clock → Clock → Reached → Type 0
Spent c d (reached.End exit.Chained) = units_left d < units_left c
Spent c d other = Unit {0}
