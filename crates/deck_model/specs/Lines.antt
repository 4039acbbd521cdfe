-- Bytes as lines: those that end with a LF, and what comes after the last LF.
use Rattle.std.specs.Prelude.{ℕ, ◌==◌, List, [], ◌∷◌}
use Rattle.std.specs.List.{slice_split}
use Rattle.std.specs.Str.Lines.{strip_carriage_return}

-- the parts of bytes between LFs
abbrev pub parts_of : List ℕ → List (List ℕ)
parts_of bytes = slice_split (λ b. b == 10) bytes

-- each part but the last is a line, with one CR at its end dropped
abbrev pub lines_in : List (List ℕ) → List (List ℕ)
lines_in [] = []
lines_in (part ∷ []) = []
lines_in (part ∷ next ∷ parts) = strip_carriage_return part ∷ lines_in (next ∷ parts)

abbrev pub last_in : List (List ℕ) → List ℕ
last_in [] = []
last_in (part ∷ []) = part
last_in (part ∷ next ∷ parts) = last_in (next ∷ parts)

-- the whole lines
unfoldable pub whole_lines : List ℕ → List (List ℕ)
whole_lines bytes = lines_in (parts_of bytes)

-- what comes after the last LF: nothing, or a line that is cut
unfoldable pub cut_line : List ℕ → List ℕ
cut_line bytes = last_in (parts_of bytes)
