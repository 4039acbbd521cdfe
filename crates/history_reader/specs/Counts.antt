-- Which texts are those of numbers, of any size, and how many entries a first line allows.
use Rattle.std.specs.Prelude.{◌≡◌, ◌⊎◌, ℕ, ◌≤◌, Bool, false, not, ◌&&◌, ◌||◌, ◌==◌, List, [], ◌∷◌, length, bytes_eq, codes}
use Rattle.std.specs.List.{list_all}
use Rattle.std.specs.Char.{is_ascii_digit}
use Rattle.deck_model.specs.Histories.{count_text}

-- digits, of which the first is no 0 unless it is alone
abbrev pub is_count : List ℕ → Bool
is_count [] = false
is_count (first ∷ others) =
    list_all is_ascii_digit (first ∷ others) && (not (first == 48) || length others == 0)

abbrev pub IsCount : List ℕ → Type 0
IsCount text = (number : ℕ) × (text ≡ count_text number)

-- the star of a journal, which counts nothing
abbrev pub is_star : List ℕ → Bool
is_star count = bytes_eq count (codes "*")

-- a history of this many entries may have this count in its first line: their number, or a star
abbrev pub Counts : List ℕ → ℕ → Type 0
Counts count number = (count ≡ count_text number) ⊎ (count ≡ codes "*")

-- a history with this count may begin with this many entries
abbrev pub Allows : List ℕ → ℕ → Type 0
Allows count number = (all : ℕ) × (number ≤ all) × Counts count all
