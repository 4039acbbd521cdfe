-- What the operators give on 16-bit integers.
use Rattle.std.specs.Prelude.{ℕ, zero, suc, ◌+◌, ◌/◌, ◌%◌, ◌==◌, if◌then◌else◌, ℤ, pos, negsuc, ◌*ℤ◌, neg_ℤ, Result, Ok, Err}
use Rattle.basic_values.specs.declared.errors.TheConstants.{DIVISION_BY_ZERO}
use Rattle.basic_values.specs.Numbers.{wrap}

-- the unbounded product of `count` factors that are all this number; 1 if there are none
unfoldable pub repeated_product : ℤ → ℕ → ℤ
repeated_product base zero = pos 1
repeated_product base (suc count) = repeated_product base count *ℤ base

-- 1 divided by that product, without its fraction: it is 0 unless the number is 1 or -1
abbrev pub inverse_product : ℤ → ℕ → ℤ
inverse_product (pos a) count = if a == 1 then pos 1 else pos 0
inverse_product (negsuc a) count =
    if a == 0 then (if count % 2 == 0 then pos 1 else negsuc 0) else pos 0

-- a power: the unbounded product wrapped once, and its inverse if the exponent is below 0
abbrev pub power : ℤ → ℤ → ℤ
power base (pos exponent) = wrap (repeated_product base exponent)
power base (negsuc n) = inverse_product base (n + 1)

-- a quotient of unbounded integers, without its fraction
abbrev pub truncated : ℤ → ℤ → ℤ
truncated (pos a) (pos b) = pos (a / b)
truncated (pos a) (negsuc b) = neg_ℤ (pos (a / (b + 1)))
truncated (negsuc a) (pos b) = neg_ℤ (pos ((a + 1) / b))
truncated (negsuc a) (negsuc b) = pos ((a + 1) / (b + 1))

-- the quotient, wrapped; or the number of the error
abbrev pub quotient : ℤ → ℤ → Result ℤ ℕ
quotient a (pos zero) = Err DIVISION_BY_ZERO
quotient a b = Ok (wrap (truncated a b))
