-- The text of a program: its lines by their numbers, each with the bytes after its number.
use Rattle.std.specs.Prelude.{ℕ, Bool, not, ◌&&◌, nat_le, List, ◌++◌, filter, flat_map, Option, codes}
use Rattle.std.specs.BTreeMap.{insert_entry, is_at}
use Rattle.std.specs.Fmt.{decimal}
use Rattle.std.specs.Map.{lookup, remove_entry}
use Rattle.std.specs.Ordering.{nat_cmp}

-- in the order of their numbers
abbrev pub Lines : Type 0
Lines = List (ℕ × List ℕ)

-- what follows the number, if there is such a line
abbrev pub line : ℕ → Lines → Option (List ℕ)
line number lines = lookup (is_at (nat_cmp number)) lines

abbrev pub stored : ℕ → List ℕ → Lines → Lines
stored number rest lines = insert_entry nat_cmp lines number rest

abbrev pub removed : ℕ → Lines → Lines
removed number lines = remove_entry (is_at (nat_cmp number)) lines

-- the lines from one number to another, and all others
abbrev pub is_within : ℕ → ℕ → ℕ → Bool
is_within from to number = nat_le from number && nat_le number to

abbrev pub within : ℕ → ℕ → Lines → Lines
within from to lines = filter (λ line. is_within from to line.0) lines

abbrev pub without : ℕ → ℕ → Lines → Lines
without from to lines = filter (λ line. not (is_within from to line.0)) lines

-- lines as they are listed: the number, what follows it, CR and LF
abbrev pub listed : ℕ × List ℕ → List ℕ
listed line = decimal line.0 ++ (line.1 ++ codes "\r\n")

abbrev pub listing : Lines → List ℕ
listing lines = flat_map listed lines
