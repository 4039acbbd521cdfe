-- The laws of the string functions, about definitions alone.
use Rattle.std.specs.Prelude.{◌≡◌, ◌≤◌, ◌+◌, ◌⊎◌, ℕ, List, ◌++◌, length, ℤ, pos, ◌+ℤ◌, Ok}
use Rattle.std.specs.Fmt.{signed_decimal}
use Rattle.basic_values.specs.Laws.{IsInRange}
use Rattle.basic_values.specs.Numbers.{printed}
use Rattle.basic_strings.specs.Cuts.{place_given, left_of, right_of}
use Rattle.basic_strings.specs.Pairs.{pair_of, number_in}
use Rattle.basic_strings.specs.Places.{place_of}
use Rattle.basic_strings.specs.Readings.{value_read}

-- CVT$% of CVT%$ gives the number back
abbrev pub PairsGiveBack : Type 0
PairsGiveBack = (z : ℤ) → IsInRange z → number_in (pair_of z) ≡ z

-- VAL of NUM1$ gives the number back
abbrev pub ReadingGivesBack : Type 0
ReadingGivesBack = (z : ℤ) → IsInRange z → value_read (signed_decimal z) ≡ Ok z

-- VAL of NUM$ gives the number back
abbrev pub ReadingSkipsBlanks : Type 0
ReadingSkipsBlanks = (z : ℤ) → IsInRange z → value_read (printed z) ≡ Ok z

-- LEFT up to a place and RIGHT from the next one split a string in two and lose nothing
abbrev pub CutsLoseNothing : Type 0
CutsLoseNothing = (text : List ℕ) (place : ℤ) →
    left_of text place ++ right_of text (place +ℤ pos 1) ≡ text

-- the sought string is at this place of the other
pub record StandsAt (text sought : List ℕ) (place : ℕ) : Type 0 where
  pub front : List ℕ
  pub back : List ℕ
  pub parts : text ≡ front ++ (sought ++ back)
  pub before : length front + 1 ≡ place

-- it is there, and at no smaller place from the given one on
pub record IsLeastPlace (from : ℤ) (text sought : List ℕ) (place : ℕ) : Type 0 where
  pub reached : place_given from ≤ place
  pub here : StandsAt text sought place
  pub least : (other : ℕ) → place_given from ≤ other → StandsAt text sought other → place ≤ other

-- it is at no place from the given one on
abbrev pub StandsNowhere : ℤ → List ℕ → List ℕ → Type 0
StandsNowhere from text sought = (place : ℕ) →
    place_given from ≤ place → ¬ StandsAt text sought place

-- INSTR gives the least place, or 0 if there is none
abbrev pub PlaceIsLeast : Type 0
PlaceIsLeast = (from : ℤ) (text sought : List ℕ) →
    ((place : ℕ) × (place_of from text sought ≡ pos place) × IsLeastPlace from text sought place)
    ⊎ ((place_of from text sought ≡ pos 0) × StandsNowhere from text sought)
