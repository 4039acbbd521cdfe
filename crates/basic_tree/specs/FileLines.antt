-- The lines of a file, from its pages.
use Rattle.std.specs.Prelude.{ℕ, ◌-◌, Bool, not, ◌==◌, if◌then◌else◌, List, [], ◌∷◌, length, take, filter, slice_index}
use Rattle.std.specs.List.{concat, slice_split}

-- whether a byte of the pages counts: zero bytes do not
abbrev pub is_written : ℕ → Bool
is_written byte = not (byte == 0)

abbrev pub file_text : List (List ℕ) → List ℕ
file_text pages = filter is_written (concat pages)

abbrev pub is_line_feed : ℕ → Bool
is_line_feed byte = byte == 10

-- without one CR at the end
abbrev pub without_return : List ℕ → List ℕ
without_return text =
    if slice_index text (length text - 1) == 13 then take (length text - 1) text else text

-- what is before each LF, without a CR right before it; and what follows the last LF, if that is
-- not empty
abbrev pub lines_between : List (List ℕ) → List (List ℕ)
lines_between [] = []
lines_between ([] ∷ []) = []
lines_between ((byte ∷ bytes) ∷ []) = (byte ∷ bytes) ∷ []
lines_between (piece ∷ next ∷ pieces) = without_return piece ∷ lines_between (next ∷ pieces)

abbrev pub file_lines : List ℕ → List (List ℕ)
file_lines text = lines_between (slice_split is_line_feed text)
