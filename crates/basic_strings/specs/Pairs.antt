-- Numbers as two bytes, the high one first.
use Rattle.std.specs.Prelude.{ℕ, ◌+◌, ◌*◌, ◌/◌, ◌%◌, List, [], ◌∷◌, ℤ, slice_index}
use Rattle.basic_values.specs.Numbers.{low_bits, signed}

-- the high byte and the low byte
abbrev pub pair_of : ℤ → List ℕ
pair_of n = (low_bits n / 256) ∷ (low_bits n % 256) ∷ []

-- the number whose high and low byte are the first two of the string; a missing byte counts as 0
abbrev pub number_in : List ℕ → ℤ
number_in text = signed (slice_index text 0 * 256 + slice_index text 1)
