-- The lines of a text that end with a LF.
use Rattle.std.specs.Prelude.{ℕ, ◌==◌, if◌then◌else◌, List, [], ◌∷◌, ◌++◌, take, codes}
use Rattle.std.specs.List.{flat_map}

-- one byte more before the first line; a byte that comes after all lines is in none
abbrev pub onto_line : ℕ → List (List ℕ) → List (List ℕ)
onto_line byte [] = []
onto_line byte (line ∷ lines) = (byte ∷ line) ∷ lines

-- the lines that end with a LF, each without it
abbrev pub ended_lines : List ℕ → List (List ℕ)
ended_lines [] = []
ended_lines (byte ∷ text) =
    if byte == 10 then [] ∷ ended_lines text else onto_line byte (ended_lines text)

-- the lines, each with a LF after it
abbrev pub with_feeds : List (List ℕ) → List ℕ
with_feeds lines = flat_map (λ line. line ++ codes "\n") lines

-- the first of them, up to this number, each with a LF after it
abbrev pub first_ended : ℕ → List ℕ → List ℕ
first_ended count text = with_feeds (take count (ended_lines text))
