-- What is set at the beginning of a line of immediate mode, and what is put aside and back. No
-- contract of a public call mentions it.
use Rattle.std.specs.Prelude.{ℕ, List, [], replicate, None, pos, ℤ}
use Rattle.error_trap.specs.declared.trap.Trap.{Trap}
use Rattle.program_model.specs.declared.homes.Home.{Home}
use Rattle.program_model.specs.declared.values.Frame.{Frame}
use Rattle.program_model.specs.Job.{Job}
use Rattle.program_model.specs.Running.{no_home}
use Rattle.polish_code.specs.Walk.{Spot}

-- limit 0 and step 1 for each of this many FORs
abbrev pub fresh_limits : ℕ → List (ℤ × ℤ)
fresh_limits loops = replicate loops (pos 0, pos 1)

-- a line with this many FORs begins
abbrev pub set_apart : ℕ → Job Spot → Job Spot
set_apart loops j = record j {
  limits = fresh_limits loops;
  trap = record j.trap { handler = None; place = 0 };
  returns = [];
  line = 0;
  home = no_home;
  frames = [];
}

-- what of a job is put aside while a line runs
pub record PutAside : Type 0 where
  pub limits : List (ℤ × ℤ)
  pub trap : Trap
  pub returns : List Spot
  pub home : Home
  pub frames : List Frame

abbrev pub kept_of : Job Spot → PutAside
kept_of j = record { limits = j.limits; trap = j.trap; returns = j.returns; home = j.home; frames = j.frames }

abbrev pub with_kept : PutAside → Job Spot → Job Spot
with_kept kept j = record j {
  limits = kept.limits;
  trap = kept.trap;
  returns = kept.returns;
  home = kept.home;
  frames = kept.frames;
}
