-- What a call that writes to a screen leaves.
use Rattle.std.specs.Prelude.{◌≡◌, ℕ, List, ◌++◌, Result, Ok, Err}
use Rattle.basic_values.specs.declared.failures.NoMemory.{NoMemory}

-- the bytes are appended; or memory ran out, and the screen is as it was
abbrev pub Writes : List ℕ → List ℕ → List ℕ → Result Unit NoMemory → Type 0
Writes bytes old new (Ok done) = new ≡ old ++ bytes
Writes bytes old new (Err lost) = new ≡ old
