-- Strings as lists of bytes, and how two of them compare.
use Rattle.std.specs.Prelude.{◌≡◌, ◌<◌, ◌≤◌, ◌-◌, ℕ, List, ◌++◌, length, replicate, Result, Ok, Err}
use Rattle.std.specs.declared.cmp.Ordering.{Ordering}
use Rattle.std.specs.Ordering.{nat_cmp}
use Rattle.std.specs.Cmp.Lexicographic.{slice_cmp}
use Rattle.basic_values.specs.declared.texts.TheConstants.{MOST_BYTES}
use Rattle.basic_values.specs.declared.failures.Halt.{Halt}
use Rattle.basic_values.specs.declared.failures.Halt.TheVariants.{TooLong}
use Rattle.basic_values.specs.declared.failures.Trouble.{Trouble}
use Rattle.basic_values.specs.declared.failures.Trouble.TheVariants.{Refused, NoMemory}

-- A call that makes a string of these bytes returns it, or reports that it is too long exactly if
-- it is, or that memory ran out.
abbrev pub MakesText : List ℕ → Result (List ℕ) (Trouble Halt) → Type 0
MakesText bytes (Ok text) = (text ≡ bytes) × (length bytes ≤ MOST_BYTES)
MakesText bytes (Err (Refused halt)) = (halt ≡ TooLong) × (MOST_BYTES < length bytes)
MakesText bytes (Err NoMemory) = Unit {0}

-- the byte of a space
abbrev pub space : ℕ
space = 32

-- the string, padded with spaces to that many bytes
abbrev pub padded : ℕ → List ℕ → List ℕ
padded width text = text ++ replicate (width - length text) space

-- the order of two strings, the shorter padded with spaces
abbrev pub order_of : List ℕ → List ℕ → Ordering
order_of a b = slice_cmp nat_cmp (padded (length b) a) (padded (length a) b)
