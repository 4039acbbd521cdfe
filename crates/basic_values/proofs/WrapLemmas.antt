-- The wrapped number is the result of the machine's wrapping operations.
use Rattle.std.proofs.Common.{◌≡◌, ℕ, zero, suc, ◌-◌, ◌^◌, ◌%◌, ◌<◌, true, false, cond, ltb, ℤ, pos, negsuc, ◌*ℤ◌, ◌≤ℤ◌, refl, sym, ap, ◌∙◌, arith}
use Rattle.std.specs.Int.{w16, int_wrap, int_wrapping_pow, cast_signed, cast_unsigned}
use Rattle.std.specs.Int.RustNames.{FitsSigned, unsigned_abs}
use Rattle.std.proofs.lemmas.Int.{ints, int_wrap-mul_left, wrapping_mul_onto}
use Rattle.std.proofs.lemmas.Nat.{mul-mod_first, mod_below}
use Rattle.std.proofs.Math.Nat.{pow-zero, pow-suc}
use Rattle.basic_values.specs.Numbers.{low_bits, signed, wrap}
use Rattle.basic_values.specs.Arithmetic.{repeated_product, power}

pub signed-is : (n : ℕ) → signed n ≡ cast_signed w16 n
signed-is n = ap (λ m. cond (ltb n 32768) (pos n) (negsuc m)) (omega arith)

pub wrap-is : (z : ℤ) → wrap z ≡ int_wrap w16 z
unfolding int_wrap
wrap-is (pos n) = signed-is (n % 65536)
wrap-is (negsuc n) = signed-is (65535 - n % 65536)

-- the machine's power is the product of all its factors, wrapped once
pub wrapping_pow-is : (a : ℤ) (e : ℕ) → FitsSigned w16 a → int_wrapping_pow w16 a e ≡ int_wrap w16 (repeated_product a e)
unfolding repeated_product int_wrap
wrapping_pow-is a zero fits = ap (λ n. cast_signed w16 (n % 65536)) (pow-zero (cast_unsigned w16 a))
wrapping_pow-is a (suc e) fits =
    ap (λ n. cast_signed w16 (n % 65536)) (pow-suc (cast_unsigned w16 a) e)
    ∙ ap (cast_signed w16) (sym (mul-mod_first (cast_unsigned w16 a ^ e) (cast_unsigned w16 a) 65536))
    ∙ wrapping_mul_onto w16 (cast_unsigned w16 a ^ e % 65536) a (mod_below _ 65536 (omega arith)) fits
    ∙ ap (λ z. int_wrap w16 (z *ℤ a)) (wrapping_pow-is a e fits)
    ∙ int_wrap-mul_left w16 (repeated_product a e) a

pub power_up : (a b : ℤ) (e : ℕ) → FitsSigned w16 a → pos 0 ≤ℤ b → e ≡ unsigned_abs b → int_wrapping_pow w16 a e ≡ power a b
power_up a (pos n) e fits up same =
    ap (int_wrapping_pow w16 a) same ∙ wrapping_pow-is a n fits ∙ sym (wrap-is (repeated_product a n))
power_up a (negsuc n) e fits up same = absurd (omega (arith, ints))

-- the low bits of the number with these bits are these bits
pub low_bits-signed : (n : ℕ) → n < 65536 → low_bits (signed n) ≡ n
low_bits-signed n below =
    elim (ltb n 32768) as (λ b. ltb n 32768 ≡ b → low_bits (cond b (pos n) (negsuc (65535 - n))) ≡ n) [
      | true ↦ λ e. omega arith
      | false ↦ λ e. omega arith
    ] refl

pub low_bits-lt : (z : ℤ) → low_bits z < 65536
low_bits-lt (pos n) = omega arith
low_bits-lt (negsuc n) = omega arith
