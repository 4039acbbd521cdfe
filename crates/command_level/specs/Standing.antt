-- Which session of the definitions the code's represents, and what a call does in it.
use Rattle.std.specs.Prelude.{◌≡◌, ℕ, Bool, true, false, List, Option, Some, None, Result, Ok, Err}
use Rattle.std.specs.Option.{option_map, OnSome}
use Rattle.basic_values.specs.declared.failures.NoMemory.{NoMemory}
use Rattle.basic_values.specs.declared.failures.Trouble.{Trouble}
use Rattle.basic_values.specs.declared.failures.Trouble.TheVariants as trouble
use Rattle.basic_tree.specs.declared.programs.Line.{Line}
use Rattle.basic_tree.specs.declared.tokens.Cause.{Cause}
use Rattle.basic_tree.specs.LineVerdicts.{Verdict, HasTree, RefusedFor}
use Rattle.basic_tree.specs.SpellingStatements.{line_statements}
use Rattle.basic_tree.specs.StatementViews.{line_of}
use Rattle.basic_tree.specs.Trees.{LineTree}
use Rattle.grammar_machine.specs.MachineJudge.{judge_of}
use Rattle.monitor_calls.specs.declared.events.Event.{Event}
use Rattle.job_model.specs.Play.{Clock}
use Rattle.program_model.specs.Program.{Program, Position}
use Rattle.program_model.specs.Soundness.{refusal_of}
use Rattle.polish_code.specs.Walk.{Spot}
use Rattle.polish_code.specs.Lowered.{lowered, low_leaving}
use Rattle.basic_eval.specs.declared.exits.Exit.{Exit}
use Rattle.basic_eval.specs.declared.exits.Exit.TheVariants as exit
use Rattle.basic_eval.specs.Acting.{break_of}
use Rattle.session_model.specs.Serving.{FollowsSession}
use Rattle.session_model.specs.Talk as talk
use Rattle.session_model.specs.Talk.{Step, program_by, outlived, reported, run_is_over}
use Rattle.command_level.specs.declared.session.Session.{Session}
use Rattle.command_level.specs.declared.session.AfterLine.{AfterLine}
use Rattle.command_level.specs.AfterLines.{goes}
use Rattle.command_level.specs.Seen.{seen}

-- a session with the places of a program's code
abbrev pub low_session : Program → talk.Session Position → talk.Session Spot
low_session program s = record {
  account = s.account;
  name = s.name;
  lines = s.lines;
  job = lowered program s.job;
  stop = option_map (low_leaving program) s.stop;
}

-- a STOP is one of the program in memory, which is not rejected
abbrev pub StopFits : Program → talk.Session Position → Type 0
StopFits program s = OnSome s.stop ((program ≡ program_by judge_of s.lines) × (refusal_of program ≡ None))

-- the code's session represents this one: its places are those of the program that ran last
pub record Stands (session : Session) (s : talk.Session Position) : Type 0 where
  pub program : Program
  pub low : low_session program s ≡ seen session
  pub fits : StopFits program s

-- what is left after an answer: onward, in a session that the code's represents; if memory ran out,
-- nothing is claimed
abbrev pub LeftBy : Session → Result AfterLine NoMemory → Option (ℕ → Step Position) → Type 0
LeftBy session (Ok onward) left = (t : talk.Session Position) × Stands session t × (left ≡ Some (λ most. goes onward t))
LeftBy session (Err e) left = left ≡ None

-- a call executes what is to be done, up to what is left
pub record Serves {P W : Type 0} (who : P → W) (log : P → List Event) (old new : P) (c d : Clock)
    (step : ℕ → Step Position) (session : Session) (result : Result AfterLine NoMemory) : Type 0 where
  pub left : Option (ℕ → Step Position)
  pub leaves : LeftBy session result left
  pub follows : FollowsSession who log old new c d step left

-- whether the job's calls are used up
abbrev pub is_gone : Exit → Bool
is_gone exit.Gone = true
is_gone other = false

-- what the end of a run leads to, in the state that it left; if memory ran out, nothing is claimed
abbrev pub run_ends : Trouble Exit → talk.Session Spot → Option (Step Spot)
run_ends (trouble.Refused why) s = Some (outlived (run_is_over s) s (break_of why) s.job)
run_ends trouble.NoMemory s = None

abbrev pub line_ends : Trouble Exit → talk.Session Spot → Option (Step Spot)
line_ends (trouble.Refused why) s = Some (outlived (reported s) s (break_of why) s.job)
line_ends trouble.NoMemory s = None

-- LINES

-- what the grammar says of a line, with the tree of the code
abbrev pub HasVerdict : Verdict → Result Line (Trouble Cause) → Type 0
HasVerdict verdict (Ok line) = (l : LineTree) × (verdict ≡ HasTree l) × (line_of line ≡ line_statements l)
HasVerdict verdict (Err (trouble.Refused cause)) = verdict ≡ RefusedFor cause
HasVerdict verdict (Err trouble.NoMemory) = Unit {0}
