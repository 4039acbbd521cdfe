-- A run that ends in a chain has taken a unit, whatever the state in which it began.
use Rattle.std.specs.Prelude.{ℕ, suc, ◌+◌, ◌-◌, ◌*◌, ◌<◌, Result, Err}
use Rattle.basic_values.specs.declared.failures.Trouble.{Trouble}
use Rattle.basic_values.specs.declared.failures.Trouble.TheVariants as trouble
use Rattle.job_model.specs.Play.{Clock, asking_unit, last_tick}
use Rattle.basic_eval.specs.declared.exits.Exit.{Exit}
use Rattle.basic_eval.specs.declared.exits.Exit.TheVariants as exit

-- more than a clock lets a job take
abbrev pub units_left : Clock → ℕ
units_left c = suc asking_unit * (last_tick - c.ticks) + (asking_unit - c.units)

-- if a program was left for another, fewer are left than before
abbrev pub SpendsAtChain : Clock → Clock → Result (Unit {0}) (Trouble Exit) → Type 0
SpendsAtChain c d (Err (trouble.Refused exit.Chained)) = units_left d < units_left c
SpendsAtChain c d other = Unit {0}
