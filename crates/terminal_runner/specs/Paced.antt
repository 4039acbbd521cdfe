-- What the pacer of a job is notified of. No public promise needs it.
use Rattle.std.specs.Prelude.{◌≡◌, ℕ, zero, suc, ◌-◌, ◌^◌, ◌≤◌, min, List, [], ◌∷◌, ◌++◌, map}
use Rattle.monitor_gate.specs.Passes.{SeatValue}
use Rattle.terminal_runner.specs.declared.tellings.Telling.{Telling}
use Rattle.terminal_runner.specs.declared.tellings.Telling.TheVariants.{Before, After}
use Rattle.terminal_runner.specs.Told.{Told}

-- the number of a job's call, from 1, which stays at the largest of 32 bits
abbrev pub call_number : ℕ → ℕ
call_number call = min call (2 ^ 32 - 1)

-- the notifications around one call: before it, with the seat that makes it, and after it, with the
-- seat that has made it
abbrev pub told_around : ℕ → SeatValue → SeatValue → List Told
told_around number seat seat' = (Before number, seat) ∷ (After number, seat') ∷ []

-- the job of a notification, and what was notified
abbrev pub of_job : Told → ℕ × Telling
of_job told = (told.1.pass.job, told.0)

-- the notifications around this many calls of a job, from its first
abbrev pub told_of : ℕ → ℕ → List (ℕ × Telling)
told_of job zero = []
told_of job (suc calls) =
    let number = call_number (suc calls) in
    told_of job calls ++ (job, Before number) ∷ (job, After number) ∷ []

-- It was notified around each call of the job, and of nothing else. The calls are at least as many
-- as were answered, and the last of them has this number
abbrev pub WasTold : ℕ → ℕ → ℕ → List Told → Type 0
WasTold job answered last told =
    (calls : ℕ) × (answered ≤ calls) × (last ≡ call_number calls) × (map of_job told ≡ told_of job calls)
