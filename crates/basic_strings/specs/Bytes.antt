-- Strings of one byte, once or many times.
use Rattle.std.specs.Prelude.{ℕ, ◌-◌, ◌%◌, List, [], ◌∷◌, replicate, ℤ, pos, negsuc}
use Rattle.basic_strings.specs.Cuts.{length_given}

-- the remainder modulo 256
abbrev pub byte_of : ℤ → ℕ
byte_of (pos n) = n % 256
byte_of (negsuc n) = 255 - n % 256

-- the code of the first byte; 0 for an empty string
abbrev pub first_byte : List ℕ → ℤ
first_byte [] = pos 0
first_byte (byte ∷ rest) = pos byte

-- this many times this byte
abbrev pub repeated : ℤ → ℕ → List ℕ
repeated count byte = replicate (length_given count) byte
