-- What is stored under names: a row of slots for each letter, with one slot for each name of that
-- letter.
use Rattle.std.specs.Prelude.{◌≡◌, ◌≢◌, ℕ, zero, suc, ◌+◌, ◌*◌, ◌/◌, ◌%◌, ◌==◌, if◌then◌else◌, List, [], ◌∷◌, slice_index_or, Option, Some, None}
use Rattle.std.specs.BTreeMap.{insert_entry}
use Rattle.std.specs.List.Sorted.{IsStrictlySortedBy}
use Rattle.std.specs.Map.{keys_of}
use Rattle.basic_tree.specs.declared.names.Name.{Name}
use Rattle.job_memory.specs.Names.{name_cmp}

-- A NAME'S SLOT

-- no digit comes before each digit
abbrev pub place_of : Option ℕ → ℕ
place_of None = 0
place_of (Some digit) = suc digit

-- the slot of a name in the row of its letter: a number comes before a string
abbrev pub slot_of : Name → ℕ
slot_of name = 2 * place_of name.digit + (if name.text then 1 else 0)

abbrev pub digit_at : ℕ → Option ℕ
digit_at zero = None
digit_at (suc digit) = Some digit

-- the name that has a slot
abbrev pub name_of : ℕ → ℕ → Name
name_of letter slot = record { letter = letter; digit = digit_at (slot / 2); text = slot % 2 == 1 }

module _ {T : Type 0} where
  -- what is in a slot
  abbrev pub slot_in : List (Option T) → ℕ → Option T
  slot_in row slot = slice_index_or row slot None

  -- the row of a letter; a missing row has no slots
  abbrev pub row_in : List (List (Option T)) → ℕ → List (Option T)
  row_in rows letter = slice_index_or rows letter []

  -- what is stored under a name
  abbrev pub stored_in : List (List (Option T)) → Name → Option T
  stored_in rows name = slot_in (row_in rows name.letter) (slot_of name)

  -- ENTRIES

  -- the entries with that of one slot among them, in the order of names
  abbrev pub with_slot : Name → Option T → List (Name × T) → List (Name × T)
  with_slot name None entries = entries
  with_slot name (Some value) entries = insert_entry name_cmp entries name value

  -- with those of a row, from a slot on
  abbrev pub with_row : ℕ → ℕ → List (Option T) → List (Name × T) → List (Name × T)
  with_row letter slot [] entries = entries
  with_row letter slot (held ∷ row) entries = with_slot (name_of letter slot) held (with_row letter (slot + 1) row entries)

  -- the entries of all rows, from a letter on
  abbrev pub entries_from : ℕ → List (List (Option T)) → List (Name × T)
  entries_from letter [] = []
  entries_from letter (row ∷ rows) = with_row letter 0 row (entries_from (letter + 1) rows)

  -- all that is stored, as a list in the order of names
  abbrev pub entries_of : List (List (Option T)) → List (Name × T)
  entries_of rows = entries_from 0 rows

  -- no name comes twice, and each one comes after those that are less
  abbrev pub IsOrdered : List (Name × T) → Type 0
  IsOrdered entries = IsStrictlySortedBy name_cmp (keys_of entries)

  -- CHANGES

  -- each slot keeps its content; one past the end is empty
  abbrev pub SameSlots : List (Option T) → List (Option T) → Type 0
  SameSlots old new = (k : ℕ) → slot_in new k ≡ slot_in old k

  abbrev pub SameRows : List (List (Option T)) → List (List (Option T)) → Type 0
  SameRows old new = (k : ℕ) → row_in new k ≡ row_in old k

-- one slot of a row gets this, and each other one keeps its content
pub record HoldsAt {T : Type 0} (slot : ℕ) (held : Option T) (old new : List (Option T)) : Type 0 where
  pub here : slot_in new slot ≡ held
  pub others : (k : ℕ) → k ≢ slot → slot_in new k ≡ slot_in old k
