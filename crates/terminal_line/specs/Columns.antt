-- Columns: the place of the next byte in its line, and what PRINT writes to move there.
use Rattle.std.specs.Prelude.{ℕ, ◌+◌, ◌-◌, ◌%◌, Bool, ◌&&◌, not, ◌==◌, nat_le, nat_lt, if◌then◌else◌, List, [], ◌++◌, replicate, codes, ℤ, pos, negsuc}
use Rattle.std.specs.List.{fold}
use Rattle.basic_values.specs.Texts.{space}
use Rattle.terminal_line.specs.declared.columns.TheConstants.{MOST_COLUMN, ZONE_WIDTH, LAST_ZONE, DEL}

-- the bytes that take a column: no control bytes, and not DEL
abbrev pub is_printed : ℕ → Bool
is_printed byte = nat_le space byte && not (byte == DEL)

abbrev pub is_return : ℕ → Bool
is_return byte = byte == 13

-- the column after one more byte: CR sets it to 0, a control byte does not change it, and the
-- largest column stays
abbrev pub column_behind : ℕ → ℕ → ℕ
column_behind column byte =
    if is_return byte then 0
    else if is_printed byte && nat_lt column MOST_COLUMN then column + 1
    else column

-- the column after all these bytes
abbrev pub column_of : List ℕ → ℕ
column_of bytes = fold column_behind 0 bytes

-- a comma of PRINT: spaces to the next column at which a zone begins, or a new line from the last
-- zone on
abbrev pub zone_text : ℕ → List ℕ
zone_text column =
    if nat_le LAST_ZONE column then codes "\r\n"
    else replicate (ZONE_WIDTH - column % ZONE_WIDTH) space

-- TAB of PRINT: spaces up to a column, if the column is less
abbrev pub tab_text : ℤ → ℕ → List ℕ
tab_text (pos wanted) column = replicate (wanted - column) space
tab_text (negsuc n) column = []

-- a new line, if the column is not the first
abbrev pub fresh_text : ℕ → List ℕ
fresh_text column = if column == 0 then [] else codes "\r\n"

-- the screen after bytes that begin at the start of a line
abbrev pub on_fresh_line : List ℕ → List ℕ → List ℕ
on_fresh_line text screen = screen ++ fresh_text (column_of screen) ++ text
