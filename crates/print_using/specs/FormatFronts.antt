-- The parts of a format as a function. `Laws` says that it finds the parts of `Formats`, so if you
-- know those, you need not read this file.
use Rattle.std.specs.Prelude.{ℕ, zero, suc, ◌+◌, ◌-◌, ◌==◌, Bool, true, false, if◌then◌else◌, List, [], ◌∷◌, length, take, drop, slice_index_or, Option, Some, None, is_some}
use Rattle.std.specs.List.{prefix_len}
use Rattle.print_using.specs.declared.fields.Field.{Field}
use Rattle.print_using.specs.declared.fields.Field.TheVariants.{Initial, Column, Digits}
use Rattle.print_using.specs.Fields.{field_spelling}
use Rattle.print_using.specs.Formats.{FormatPart, OfByte, OfField}

-- THE LONGEST FIELD AT THE BEGINNING

-- how many of this byte the string begins with, and whether that byte follows them
abbrev pub run_of : ℕ → List ℕ → ℕ
run_of byte text = prefix_len (λ b. b == byte) text

abbrev pub has_at : ℕ → ℕ → List ℕ → Bool
has_at byte place text = slice_index_or text place 0 == byte

abbrev pub digits_front : Bool → List ℕ → Field
digits_front starred text = Digits starred (run_of 35 text) (has_at 45 (run_of 35 text) text)

abbrev pub column_front : List ℕ → Option Field
column_front rest =
    if has_at 92 (run_of 32 rest) rest then Some (Column (run_of 32 rest)) else None

abbrev pub starred_front : List ℕ → Option Field
starred_front rest = if has_at 42 0 rest then Some (digits_front true (drop 1 rest)) else None

unfoldable pub front_by : ℕ → List ℕ → Option Field
front_by byte format =
    if byte == 33 then Some Initial
    else if byte == 92 then column_front (drop 1 format)
    else if byte == 42 then starred_front (drop 1 format)
    else if byte == 35 then Some (digits_front false format)
    else None

abbrev pub front_field : List ℕ → Option Field
front_field format =
    if length format == 0 then None else front_by (slice_index_or format 0 0) format

-- how many bytes are before the first field, or before the end
abbrev pub bytes_before_field : List ℕ → ℕ
bytes_before_field [] = 0
bytes_before_field (byte ∷ rest) =
    if is_some (front_field (byte ∷ rest)) then 0 else 1 + bytes_before_field rest

-- what is before it, and the string from there on
abbrev pub before_field : List ℕ → List ℕ
before_field text = take (bytes_before_field text) text

abbrev pub from_field : List ℕ → List ℕ
from_field text = drop (bytes_before_field text) text

-- THE PARTS

-- the first part, and the parts that are read after this many more bytes
abbrev pub part_then : Option Field → ℕ → (ℕ → List FormatPart) → List FormatPart
part_then None byte behind = OfByte byte ∷ behind 0
part_then (Some field) byte behind = OfField field ∷ behind (length (field_spelling field) - 1)

abbrev pub parts_behind : ℕ → List ℕ → List FormatPart
parts_behind count [] = []
parts_behind zero (byte ∷ rest) =
    part_then (front_field (byte ∷ rest)) byte (λ count. parts_behind count rest)
parts_behind (suc count) (byte ∷ rest) = parts_behind count rest

abbrev pub format_parts : List ℕ → List FormatPart
format_parts format = parts_behind 0 format
