-- Strings whose bytes are looked up in a table.
use Rattle.std.specs.Prelude.{ℕ, ◌==◌, if◌then◌else◌, List, [], ◌∷◌, slice_index}
use Rattle.std.specs.List.{flat_map}

-- the byte of the table with this index; nothing if it is missing or 0
abbrev pub looked_up : List ℕ → ℕ → List ℕ
looked_up table byte = if slice_index table byte == 0 then [] else slice_index table byte ∷ []

-- each byte looked up
abbrev pub translated : List ℕ → List ℕ → List ℕ
translated table text = flat_map (looked_up table) text
