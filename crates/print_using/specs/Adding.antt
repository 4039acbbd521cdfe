-- What each function of the code adds to the bytes that are written. No contract of a public call
-- mentions it.
use Rattle.std.specs.Prelude.{◌≡◌, ◌⊎◌, ℕ, true, List, [], ◌++◌, is_some, Result, Ok, Err}
use Rattle.std.specs.Borrow.{Bor}
use Rattle.basic_values.specs.declared.failures.Trouble.{Trouble}
use Rattle.basic_values.specs.declared.failures.Trouble.TheVariants.{Refused, NoMemory}
use Rattle.print_using.specs.FormatFronts.{front_field, format_parts}
use Rattle.print_using.specs.Using.{OneWritten, by_next_field, one_value}
use Rattle.print_using.specs.Values.{PrintedValue}

-- these bytes, or the error; or memory ran out
abbrev pub AddsWritten
    : Result (List ℕ) ℕ → List ℕ → List ℕ → Result (Unit {0}) (Trouble ℕ) → Type 0
AddsWritten written old new (Ok done) =
    (more : List ℕ) × (written ≡ Ok more) × (new ≡ old ++ more)
AddsWritten written old new (Err (Refused fault)) = written ≡ Err fault
AddsWritten written old new (Err NoMemory) = Unit {0}

-- what one value writes, if this is left of the format
abbrev pub one_of : List ℕ → List ℕ → PrintedValue → OneWritten
one_of format left value = one_value (format_parts format) (format_parts left) value

-- the bytes of one value are written, and the rest of the format is returned
abbrev pub AddsValue : OneWritten → List ℕ → List ℕ → Result (Bor (List ℕ)) (Trouble ℕ) → Type 0
AddsValue one old new (Ok rest) =
    (more : List ℕ) × (one ≡ Ok (more, format_parts rest.now)) × (new ≡ old ++ more)
AddsValue one old new (Err (Refused fault)) = one ≡ Err fault
AddsValue one old new (Err NoMemory) = Unit {0}

-- the same after these bytes
abbrev pub behind_bytes : List ℕ → OneWritten → OneWritten
behind_bytes bytes (Ok one) = Ok (bytes ++ one.0, one.1)
behind_bytes bytes (Err fault) = Err fault

-- the bytes before the next field are written, and the format continues from that field on; it is
-- empty if there is no field
pub record ReachesField (format left rest old new : List ℕ) : Type 0 where
  pub more : List ℕ
  pub grew : new ≡ old ++ more
  pub same : (value : PrintedValue) →
      one_of format left value ≡ behind_bytes more (by_next_field (format_parts rest) value)
  pub ready : (rest ≡ []) ⊎ (is_some (front_field rest) ≡ true)
