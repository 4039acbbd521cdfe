-- The operators on the 16 bits of two's complement.
use Rattle.std.specs.Prelude.{ℕ, ◌+◌, ◌-◌, ◌*◌, ◌/◌, ◌%◌, ℤ, bit_and, bit_or, bit_xor}
use Rattle.basic_values.specs.Numbers.{low_bits, signed}

-- the 16 bits, each inverted
abbrev pub turned : ℕ → ℕ
turned bits = 65535 - bits

-- 1 where both bits are 1
abbrev pub both : ℤ → ℤ → ℤ
both a b = signed (bit_and (low_bits a) (low_bits b))

-- 1 where at least one bit is 1
abbrev pub either : ℤ → ℤ → ℤ
either a b = signed (bit_or (low_bits a) (low_bits b))

-- 1 where the bits differ
abbrev pub differing : ℤ → ℤ → ℤ
differing a b = signed (bit_xor (low_bits a) (low_bits b))

-- 1 where the bits are the same
abbrev pub alike : ℤ → ℤ → ℤ
alike a b = signed (turned (bit_xor (low_bits a) (low_bits b)))

-- 1 except where the first bit is 1 and the second 0
abbrev pub implied : ℤ → ℤ → ℤ
implied a b = signed (bit_or (turned (low_bits a)) (low_bits b))

-- 1 where the bit is 0
abbrev pub negated : ℤ → ℤ
negated a = signed (turned (low_bits a))

-- the two bytes exchanged
abbrev pub swapped : ℤ → ℤ
swapped a = signed (low_bits a % 256 * 256 + low_bits a / 256)
