-- Which texts are hexadecimal digits of bytes, and of which bytes.
use Rattle.std.specs.Prelude.{ℕ, ◌+◌, ◌-◌, ◌*◌, ◌%◌, ◌==◌, Bool, ◌&&◌, ◌||◌, nat_le, nat_lt, if◌then◌else◌, List, [], ◌∷◌, length}
use Rattle.std.specs.List.{list_all}
use Rattle.std.specs.Char.{is_ascii_digit}

abbrev pub is_byte : ℕ → Bool
is_byte n = nat_lt n 256

-- 0 to 9, or a to f
abbrev pub is_hex_digit : ℕ → Bool
is_hex_digit digit = is_ascii_digit digit || (nat_le 97 digit && nat_le digit 102)

-- the number of a digit, or 0 for any other byte
abbrev pub hex_value : ℕ → ℕ
hex_value digit =
    if is_ascii_digit digit then digit - 48
    else if nat_le 97 digit && nat_le digit 102 then digit - 87 else 0

-- two digits for each byte
unfoldable pub is_hex : List ℕ → Bool
is_hex text = length text % 2 == 0 && list_all is_hex_digit text

-- the byte of each two digits; a last digit without another has none
unfoldable pub hex_bytes : List ℕ → List ℕ
hex_bytes [] = []
hex_bytes (high ∷ []) = []
hex_bytes (high ∷ low ∷ text) = (16 * hex_value high + hex_value low) ∷ hex_bytes text
