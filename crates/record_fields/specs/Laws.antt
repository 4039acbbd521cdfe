-- The laws of parts and places, about definitions alone.
use Rattle.std.specs.Prelude.{◌≡◌, ◌≤◌, ◌+◌, ◌⊎◌, ℕ, List, length, Option, Some, ℤ}
use Rattle.record_fields.specs.declared.parts.Part.{Part}
use Rattle.record_fields.specs.Bounds.{place_under}
use Rattle.record_fields.specs.Parts.{LiesIn, part_of, with_part}

-- what was written to a part is read from it
abbrev pub WrittenIsRead : Type 0
WrittenIsRead = (part : Part) (bytes buffer : List ℕ) → LiesIn (length buffer) part
    → length bytes ≡ part.length → part_of part (with_part part bytes buffer) ≡ bytes

-- one part ends before the other begins
abbrev pub AreApart : Part → Part → Type 0
AreApart part other =
    (part.offset + part.length ≤ other.offset) ⊎ (other.offset + other.length ≤ part.offset)

-- a write to a part does not change a part that is apart from it
abbrev pub OthersStay : Type 0
OthersStay = (part other : Part) (bytes buffer : List ℕ) → LiesIn (length buffer) part
    → AreApart part other → length bytes ≡ part.length
    → part_of other (with_part part bytes buffer) ≡ part_of other buffer

-- no two elements of an array are at one place
abbrev pub ElementsAreApart : Type 0
ElementsAreApart = (first : ℕ) (second : Option ℕ) (i k : ℤ) (j l : Option ℤ) (place : ℕ)
    → place_under first second i j ≡ Some place → place_under first second k l ≡ Some place → (i ≡ k) × (j ≡ l)
