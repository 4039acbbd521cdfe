-- Numbers that are spelled in decimal digits, without a leading zero.
use Rattle.std.specs.Prelude.{ℕ, Bool, ◌&&◌, nat_le, if◌then◌else◌, List, Option, Some, None, bytes_eq}
use Rattle.std.specs.Fmt.{decimal}
use Rattle.std.specs.Str.Parse.{digits_value}

-- whether the string is the decimal form of a number from low to high
abbrev pub is_number_between : ℕ → ℕ → List ℕ → Bool
is_number_between low high text =
    bytes_eq text (decimal (digits_value 10 text))
    && nat_le low (digits_value 10 text) && nat_le (digits_value 10 text) high

-- the number from low to high whose decimal form is this string
abbrev pub number_between : ℕ → ℕ → List ℕ → Option ℕ
number_between low high text =
    if is_number_between low high text then Some (digits_value 10 text) else None
