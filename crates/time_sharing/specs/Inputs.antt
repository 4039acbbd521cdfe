-- The input of a replay: a deck, and the text of a history after it.
use Rattle.std.specs.Prelude.{◌≡◌, ◌⊎◌, ℕ, ◌+◌, List, [], ◌∷◌, ◌++◌, length, codes}
use Rattle.std.specs.List.{AllByRecursion}
use Rattle.deck_model.specs.Lines.{whole_lines, cut_line}

-- no line of these is END
abbrev pub HaveNoEnd : List (List ℕ) → Type 0
HaveNoEnd lines = AllByRecursion (λ line. line ≡ codes "END" → ⊥) lines

-- the bytes are whole lines, of which the last is END, and no other
pub record StopAtEnd (bytes : List ℕ) : Type 0 where
  pub before : List (List ℕ)
  pub lines_are : whole_lines bytes ≡ before ++ codes "END" ∷ []
  pub no_other : HaveNoEnd before
  pub all_whole : cut_line bytes ≡ []

-- no line is END, and nothing comes after the bytes
abbrev pub IsAll : List ℕ → List ℕ → Type 0
IsAll bytes behind = HaveNoEnd (whole_lines bytes) × (behind ≡ [])

-- The deck's part of an input ends with its first whole line that is END, and the text is what
-- comes after it. If no line is END, the deck's part is all.
pub record Divided (input part text : List ℕ) : Type 0 where
  pub input_is : input ≡ part ++ text
  pub ends : StopAtEnd part ⊎ IsAll part text

-- the number, from 1, of the line after the deck's part
abbrev pub line_behind : List ℕ → ℕ
line_behind part = length (whole_lines part) + 1
