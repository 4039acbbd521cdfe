-- The notifications of a pacer.
use Rattle.std.specs.Prelude.{List, [], ◌∷◌, ◌++◌, Option, Some, None}
use Rattle.std.specs.declared.snapshot.Snapshot.{Snapshot}
use Rattle.monitor_gate.specs.Passes.{SeatValue}
use Rattle.terminal_runner.specs.declared.tellings.Telling.{Telling}

-- that a job makes a call, or has made it, and its seat as it was then
abbrev pub Told : Type 0
Told = Telling × SeatValue

-- the earlier notifications, and the last
abbrev pub all_up_to : Option (Snapshot (List Told) × Telling × Snapshot SeatValue) → List Told
all_up_to None = []
all_up_to (Some (before, telling, seat)) = before.value ++ (telling, seat.value) ∷ []
