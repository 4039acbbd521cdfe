-- The state of the program as that of the code, and the simulation: what it means that code does
-- what a program means.
use Rattle.std.specs.Prelude.{◌≡◌, ℕ, map, Option, Some, None}
use Rattle.job_model.specs.Act.{Gives, Breaks, Asks, Types, Takes, break_over}
use Rattle.program_model.specs.Program.{Program, Position, items_of, line_start}
use Rattle.program_model.specs.Job.{Job, Leaving, Ended, Stopped, StoppedInside, Chained, Deed}
use Rattle.program_model.specs.Control.{Onward, At, Behind, Leave, home_of}
use Rattle.program_model.specs.Running.{Coming, runs, runs_from}
use Rattle.polish_code.specs.Code.{code_of, place_of, statement_place, place_behind, place_for, low_home}
use Rattle.polish_code.specs.Walk.{Spot, Walked, Code, turns, turns_from}

abbrev pub spot_of : Program → Position → Spot
spot_of program q = record { behind = place_behind program q; home = low_home program (home_of program q.statement) }

abbrev pub lowered : Program → Job Position → Job Spot
lowered program j = record {
  account = j.account;
  memory = j.memory;
  channels = j.channels;
  recount = j.recount;
  buffers = j.buffers;
  common = j.common;
  screen = j.screen;
  trap = record j.trap { place = statement_place program j.trap.place };
  returns = map (spot_of program) j.returns;
  limits = j.limits;
  item = j.item;
  line = j.line;
  home = low_home program j.home;
  frames = j.frames;
  destination = j.destination;
}

abbrev pub low_leaving : Program → Leaving Position → Leaving Spot
low_leaving program Ended = Ended
low_leaving program (Stopped q) = Stopped (spot_of program q)
low_leaving program (StoppedInside home) = StoppedInside (low_home program home)
low_leaving program Chained = Chained

-- a tree of the program as one of the code, with another continuation at its end
abbrev pub lowers : {A B : Type 0} → Program → Deed Position A → (A → Job Position → Walked B) → Walked B
lowers program (Gives value j) next = next value j
lowers program (Breaks why j) next = Breaks (break_over (low_leaving program) why) (lowered program j)
lowers program (Asks request by) next = Asks request (λ reply. lowers program (by reply) next)
lowers program (Types by) next = Types (λ key. lowers program (by key) next)
lowers program (Takes j rest) next = Takes (lowered program j) (lowers program rest next)

-- the code of a program
abbrev pub coded : Program → Code
coded program = record { items = code_of program; words = items_of program; line = λ n. statement_place program (line_start n program) }

-- where code continues after a statement; no place leads out of a body
abbrev pub place_onward : Program → Onward → Option ℕ
place_onward program (At q) = Some (place_of program q)
place_onward program (Behind q) = Some (place_behind program q)
place_onward program Leave = None

-- executing the code is what the program means, with the same bound
abbrev pub KeepsMeaning : Program → Type 0
KeepsMeaning program = (most : ℕ) (coming : Coming) (j : Job Position)
    → turns (coded program) most (place_for program coming) (lowered program j)
    ≡ lowers program (runs program most coming j) (λ coming j. Gives (place_for program coming) (lowered program j))

abbrev pub CodeKeepsMeaning : Type 0
CodeKeepsMeaning = (program : Program) → KeepsMeaning program

-- the same from the statement after a given one on, as CONT continues
abbrev pub CodeGoesOn : Type 0
CodeGoesOn = (program : Program) (most : ℕ) (o : Onward) (j : Job Position)
    → turns_from (coded program) most (place_onward program o) (lowered program j)
    ≡ lowers program (runs_from program most o j) (λ coming j. Gives (place_for program coming) (lowered program j))
