-- The fields of a format: how each is spelled, and what it writes of a value.
use Rattle.std.specs.Prelude.{ℕ, ◌+◌, ◌-◌, nat_le, Bool, true, ◌||◌, if◌then◌else◌, List, [], ◌∷◌, ◌++◌, length, take, replicate, ℤ, pos, unsigned_abs, int_lt, Result, Ok, Err}
use Rattle.std.specs.Fmt.{decimal, signed_decimal}
use Rattle.basic_values.specs.declared.errors.TheConstants.{DATA_FORMAT_ERROR}
use Rattle.basic_values.specs.Texts.{padded, space}
use Rattle.print_using.specs.declared.fields.Field.{Field}
use Rattle.print_using.specs.declared.fields.Field.TheVariants.{Initial, Column, Digits}
use Rattle.print_using.specs.Values.{PrintedValue, PrintedNumber, PrintedText}

-- HOW A FIELD IS SPELLED

abbrev pub stars : Bool → List ℕ
stars starred = if starred then 42 ∷ 42 ∷ [] else []

abbrev pub minus_place : Bool → List ℕ
minus_place trailing = if trailing then 45 ∷ [] else []

-- `!`; or `\`, spaces, `\`; or an optional `**`, one or more `#`, an optional `-`
abbrev pub field_spelling : Field → List ℕ
field_spelling Initial = 33 ∷ []
field_spelling (Column spaces) = 92 ∷ replicate spaces space ++ 92 ∷ []
field_spelling (Digits starred signs trailing) =
    stars starred ++ replicate signs 35 ++ minus_place trailing

-- a field for a number has at least one place
abbrev pub has_place : Field → Bool
has_place Initial = true
has_place (Column spaces) = true
has_place (Digits starred signs trailing) = starred || nat_le 1 signs

-- WHAT A FIELD WRITES

-- this many bytes of the string, padded with spaces
abbrev pub cut_to : ℕ → List ℕ → List ℕ
cut_to width text = padded width (take width text)

-- right-aligned in this many places, filled on the left; or `%` and all digits, if there are too
-- few places
abbrev pub placed_right : ℕ → ℕ → List ℕ → List ℕ
placed_right places filler digits =
    if nat_le (length digits) places
    then replicate (places - length digits) filler ++ digits
    else 37 ∷ digits

abbrev pub field_places : Bool → ℕ → ℕ
field_places starred signs = (if starred then 2 else 0) + signs

abbrev pub filler_of : Bool → ℕ
filler_of starred = if starred then 42 else space

-- the digits, after a minus if the number is below 0 and the field has no minus at its end
abbrev pub digits_written : Bool → ℤ → List ℕ
digits_written trailing n = if trailing then decimal (unsigned_abs n) else signed_decimal n

abbrev pub minus_written : Bool → ℤ → List ℕ
minus_written trailing n =
    if trailing then (if int_lt n (pos 0) then 45 else space) ∷ [] else []

abbrev pub number_written : Bool → ℕ → Bool → ℤ → List ℕ
number_written starred signs trailing n =
    placed_right (field_places starred signs) (filler_of starred) (digits_written trailing n)
    ++ minus_written trailing n

-- the bytes, or the error if the field is for values of the other kind
abbrev pub field_bytes : Field → PrintedValue → Result (List ℕ) ℕ
field_bytes Initial (PrintedText text) = Ok (cut_to 1 text)
field_bytes (Column spaces) (PrintedText text) = Ok (cut_to (spaces + 2) text)
field_bytes (Digits starred signs trailing) (PrintedNumber n) =
    Ok (number_written starred signs trailing n)
field_bytes Initial (PrintedNumber n) = Err DATA_FORMAT_ERROR
field_bytes (Column spaces) (PrintedNumber n) = Err DATA_FORMAT_ERROR
field_bytes (Digits starred signs trailing) (PrintedText text) = Err DATA_FORMAT_ERROR
