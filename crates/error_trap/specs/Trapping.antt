-- What ON ERROR, an error and RESUME make of a trap, and what they return.
use Rattle.std.specs.Prelude.{ℕ, Bool, true, false, if◌then◌else◌, Option, Some, None, Result, Ok, Err}
use Rattle.basic_values.specs.declared.failures.Halt.{Halt}
use Rattle.basic_values.specs.declared.failures.Halt.TheVariants.{NoError}
use Rattle.error_trap.specs.declared.trap.Trap.{Trap}
use Rattle.error_trap.specs.declared.trap.Raised.{Raised}
use Rattle.error_trap.specs.declared.trap.Raised.TheVariants.{Handle, Report}

-- no handler, and no error yet
abbrev pub untouched : Trap
untouched = record { handler = None; active = false; number = 0; line = 0; place = 0 }

-- the line to which an error goes: the handler's, if there is one and no error is being handled
abbrev pub way_out : Option ℕ → Bool → Option ℕ
way_out handler true = None
way_out handler false = handler

-- the trap has caught an error
abbrev pub caught : ℕ → ℕ → ℕ → Trap → Trap
caught fault line place trap = record trap { active = true; number = fault; line = line; place = place }

-- an error is caught if it has a line to go to, and reported if it has none
abbrev pub led : ℕ → ℕ → ℕ → Trap → Option ℕ → Trap × Raised
led fault line place trap (Some handler) = (caught fault line place trap, Handle handler)
led fault line place trap None = (trap, Report)

-- an error occurred
abbrev pub raised : ℕ → ℕ → ℕ → Trap → Trap × Raised
raised fault line place trap = led fault line place trap (way_out trap.handler trap.active)

-- RESUME: the kept place, if an error is being handled
abbrev pub resumed : Trap → Trap × Result ℕ Halt
resumed trap = if trap.active then (record trap { active = false }, Ok trap.place) else (trap, Err NoError)

-- the error and the line to report, if no handler is left while an error is being handled
abbrev pub left_over : Option ℕ → Trap → Option (ℕ × ℕ)
left_over (Some handler) trap = None
left_over None trap = if trap.active then Some (trap.number, trap.line) else None

-- ON ERROR
abbrev pub handled_by : Option ℕ → Trap → Trap × Option (ℕ × ℕ)
handled_by handler trap = (record trap { handler = handler }, left_over handler trap)
