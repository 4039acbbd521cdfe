-- An array under its bounds. Subscripts begin with 0, and the last one varies fastest.
use Rattle.std.specs.Prelude.{ℕ, ◌+◌, ◌*◌, nat_le, if◌then◌else◌, Option, Some, None, ℤ}
use Rattle.record_fields.specs.Layouts.{natural}

-- how many elements there are
abbrev pub count : ℕ → Option ℕ → ℕ
count first None = first + 1
count first (Some second) = (first + 1) * (second + 1)

-- a subscript that is at most its bound
abbrev pub up_to : ℕ → Option ℕ → Option ℕ
up_to bound (Some n) = if nat_le n bound then Some n else None
up_to bound None = None

abbrev pub within : ℕ → ℤ → Option ℕ
within bound subscript = up_to bound (natural subscript)

-- the place of an element, from its row and its place in the row
abbrev pub in_rows : ℕ → Option ℕ → Option ℕ → Option ℕ
in_rows width (Some row) (Some column) = Some (row * (width + 1) + column)
in_rows width (Some row) None = None
in_rows width None column = None

-- the place of an element, if there is a bound for each subscript and a subscript for each bound,
-- and none is out of range
abbrev pub place_under : ℕ → Option ℕ → ℤ → Option ℤ → Option ℕ
place_under first None i None = within first i
place_under first None i (Some j) = None
place_under first (Some second) i None = None
place_under first (Some second) i (Some j) = in_rows second (within first i) (within second j)
