-- What a call that changes a string in place leaves.
use Rattle.std.specs.Prelude.{◌≡◌, ◌<◌, ◌≤◌, ℕ, List, length, Result, Ok, Err}
use Rattle.basic_values.specs.declared.texts.TheConstants.{MOST_BYTES}
use Rattle.basic_values.specs.declared.failures.Halt.{Halt}
use Rattle.basic_values.specs.declared.failures.Halt.TheVariants.{TooLong}
use Rattle.basic_values.specs.declared.failures.Trouble.{Trouble}
use Rattle.basic_values.specs.declared.failures.Trouble.TheVariants.{Refused, NoMemory}

-- the new string; if that is too long, or memory ran out, the old one
abbrev pub Becomes : List ℕ → List ℕ → List ℕ → Result (Unit {0}) (Trouble Halt) → Type 0
Becomes wanted old new (Ok done) = (new ≡ wanted) × (length wanted ≤ MOST_BYTES)
Becomes wanted old new (Err (Refused halt)) = (new ≡ old) × (halt ≡ TooLong) × (MOST_BYTES < length wanted)
Becomes wanted old new (Err NoMemory) = new ≡ old
