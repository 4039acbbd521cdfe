-- Numbers that strings spell.
use Rattle.std.specs.Prelude.{ℕ, ◌-◌, ◌==◌, nat_lt, Bool, true, false, if◌then◌else◌, List, [], ◌∷◌, length, take, ℤ, pos, negsuc, neg_ℤ, Option, Some, None, option_map, Result, Ok, Err, slice_index}
use Rattle.std.specs.Str.{all_ascii_digits}
use Rattle.std.specs.Str.Parse.{digits_value}
use Rattle.basic_values.specs.declared.errors.TheConstants.{DATA_FORMAT_ERROR, ILLEGAL_NUMBER, INTEGER_ERROR}
use Rattle.basic_values.specs.Blanks.{without_front_blanks, without_end_blanks}

-- the string without the blanks around it
abbrev pub without_blanks : List ℕ → List ℕ
without_blanks text = without_end_blanks (without_front_blanks text)

-- the string without one percent sign at its end
abbrev pub without_percent : List ℕ → List ℕ
without_percent text =
    if slice_index text (length text - 1) == 37 then take (length text - 1) text else text

-- the number that one or more digits spell
abbrev pub size_spelled : List ℕ → Option ℕ
size_spelled [] = None
size_spelled (byte ∷ rest) =
    if all_ascii_digits (byte ∷ rest) then Some (digits_value 10 (byte ∷ rest)) else None

-- the number with this absolute value; below 0 if there is a minus
abbrev pub with_sign : Bool → ℕ → ℤ
with_sign true size = neg_ℤ (pos size)
with_sign false size = pos size

-- the number that an optional sign and digits spell
abbrev pub number_spelled : List ℕ → Option ℤ
number_spelled [] = None
number_spelled (byte ∷ rest) =
    if byte == 45 then option_map (with_sign true) (size_spelled rest)
    else (if byte == 43 then option_map (with_sign false) (size_spelled rest)
    else option_map (with_sign false) (size_spelled (byte ∷ rest)))

-- whether a number has 16 bits
abbrev pub is_in_range : ℤ → Bool
is_in_range (pos n) = nat_lt n 32768
is_in_range (negsuc n) = nat_lt n 32768

-- the number if it has 16 bits, else the error
abbrev pub judged : ℕ → Option ℤ → Result ℤ ℕ
judged no_number None = Err no_number
judged no_number (Some z) = if is_in_range z then Ok z else Err INTEGER_ERROR

-- what VAL gives: blanks, an optional sign, digits, blanks
unfoldable pub value_read : List ℕ → Result ℤ ℕ
value_read text = judged ILLEGAL_NUMBER (number_spelled (without_blanks text))

-- what INPUT and READ accept as a number: an optional sign, digits, an optional percent sign
unfoldable pub item_read : List ℕ → Result ℤ ℕ
item_read text = judged DATA_FORMAT_ERROR (number_spelled (without_percent text))
