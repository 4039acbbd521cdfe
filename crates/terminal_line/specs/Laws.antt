-- The laws of columns, about definitions alone.
use Rattle.std.specs.Prelude.{◌≡◌, ◌<◌, ◌≤◌, ℕ, ◌+◌, ◌%◌, max, min, length, filter, List, ◌++◌, pos}
use Rattle.std.specs.List.{after_last}
use Rattle.terminal_line.specs.declared.columns.TheConstants.{MOST_COLUMN, ZONE_WIDTH, LAST_ZONE}
use Rattle.terminal_line.specs.Columns.{is_return, is_printed, column_of, zone_text, tab_text}

-- the column is the number of printed bytes after the last CR, up to the largest column
abbrev pub ColumnCounts : Type 0
ColumnCounts = (bytes : List ℕ) → column_of bytes ≡ min (length (filter is_printed (after_last is_return bytes))) MOST_COLUMN

-- after TAB the column is the given one, if it was less
abbrev pub TabsReach : Type 0
TabsReach = (bytes : List ℕ) (wanted : ℕ) → wanted ≤ MOST_COLUMN
    → column_of (bytes ++ tab_text (pos wanted) (column_of bytes)) ≡ max wanted (column_of bytes)

-- after a comma it is the next one at which a zone begins
abbrev pub ZonesReach : Type 0
ZonesReach = (bytes : List ℕ) → column_of bytes < LAST_ZONE
    → let column = column_of (bytes ++ zone_text (column_of bytes)) in
    (column_of bytes < column) × (column ≤ column_of bytes + ZONE_WIDTH) × (column % ZONE_WIDTH ≡ 0)
