-- The laws of the trap, about definitions alone.
use Rattle.std.specs.Prelude.{◌≡◌, ℕ, true, false, Some, Ok}
use Rattle.error_trap.specs.declared.trap.Trap.{Trap}
use Rattle.error_trap.specs.declared.trap.Raised.TheVariants.{Report}
use Rattle.error_trap.specs.Trapping.{raised, resumed}

-- RESUME after a trapped error gives its place; the handler is as before, and the error is kept
abbrev pub ResumeLeadsBack : Type 0
ResumeLeadsBack = (trap : Trap) (handler fault line place : ℕ) → trap.handler ≡ Some handler → trap.active ≡ false
    → resumed ((raised fault line place trap).0) ≡ (record { handler = Some handler; active = false; number = fault; line = line; place = place }, Ok place)

-- an error in a handler is reported and changes nothing
abbrev pub HandlersAreNotTrapped : Type 0
HandlersAreNotTrapped = (trap : Trap) (fault line place : ℕ) → trap.active ≡ true → raised fault line place trap ≡ (trap, Report)
