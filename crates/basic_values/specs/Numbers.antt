-- 16-bit integers, and how PRINT writes them.
use Rattle.std.specs.Prelude.{ℕ, ◌+◌, ◌-◌, ◌%◌, nat_lt, if◌then◌else◌, List, [], ◌∷◌, ◌++◌, ℤ, pos, negsuc}
use Rattle.std.specs.Fmt.{decimal}

-- the remainder modulo 65536, from 0 to 65535
abbrev pub low_bits : ℤ → ℕ
low_bits (pos n) = n % 65536
low_bits (negsuc n) = 65535 - n % 65536

-- the number from -32768 to 32767 that has these 16 bits
abbrev pub signed : ℕ → ℤ
signed bits = if nat_lt bits 32768 then pos bits else negsuc (65535 - bits)

-- the number from -32768 to 32767 that differs by a multiple of 65536
abbrev pub wrap : ℤ → ℤ
wrap z = signed (low_bits z)

-- a space or a minus, the digits, and a space
abbrev pub printed : ℤ → List ℕ
printed (pos n) = 32 ∷ decimal n ++ 32 ∷ []
printed (negsuc n) = 45 ∷ decimal (n + 1) ++ 32 ∷ []
