-- A format is a list of fields and of bytes between them.
use Rattle.std.specs.Prelude.{◌≡◌, ◌≤◌, ℕ, true, List, [], ◌∷◌, ◌++◌, length}
use Rattle.print_using.specs.declared.fields.Field.{Field}
use Rattle.print_using.specs.Fields.{field_spelling, has_place}

pub data FormatPart : Type 0 where
  OfByte : ℕ → FormatPart
  OfField : Field → FormatPart

-- the format is the field, and then the rest
pub record StandsInFront (field : Field) (rest format : List ℕ) : Type 0 where
  pub is : format ≡ field_spelling field ++ rest
  pub placed : has_place field ≡ true

abbrev pub HasNoFieldInFront : List ℕ → Type 0
HasNoFieldInFront format = (field : Field) (rest : List ℕ) → StandsInFront field rest format → ⊥

-- and the format begins with no longer field
pub record IsLongestField (field : Field) (rest format : List ℕ) : Type 0 where
  pub in_front : StandsInFront field rest format
  pub longest : (other : Field) (behind : List ℕ) → StandsInFront other behind format →
      length (field_spelling other) ≤ length (field_spelling field)

-- THE PARTS OF A FORMAT, from the left: the longest field, or a byte if it begins with no field
abbrev pub IsFormatOf : List FormatPart → List ℕ → Type 0
IsFormatOf [] format = format ≡ []
IsFormatOf (OfByte byte ∷ parts) format =
    (rest : List ℕ) × (format ≡ byte ∷ rest) × HasNoFieldInFront format × IsFormatOf parts rest
IsFormatOf (OfField field ∷ parts) format =
    (rest : List ℕ) × IsLongestField field rest format × IsFormatOf parts rest
