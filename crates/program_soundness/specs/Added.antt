-- What a list contains if not everything could be added.
use Rattle.std.specs.Prelude.{◌≡◌, ◌≤◌, List, ◌++◌, length}
use Rattle.basic_tree.specs.declared.names.Name.{Name}

-- the old list is there, and some of the first of these names after it
abbrev pub AddedSome : List Name → List Name → List Name → Type 0
AddedSome old names new =
    (rest : List Name) × (new ++ rest ≡ old ++ names) × (length old ≤ length new)
