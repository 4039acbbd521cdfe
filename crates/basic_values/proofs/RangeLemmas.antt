-- The wrapped number is the one in range that differs by a multiple of 65536.
use Rattle.std.proofs.Common.{◌≡◌, ℕ, ◌-◌, ◌/◌, ◌<◌, true, false, cond, ltb, ℤ, pos, negsuc, ◌+ℤ◌, ◌*ℤ◌, refl, sym, ◌∙◌, arith}
use Rattle.std.proofs.lemmas.Bool.{ltb-true, ltb-false}
use Rattle.std.specs.Int.{w16, int_wrap}
use Rattle.std.proofs.lemmas.Int.{ints, int_wrap-add_left, int_wrap-add_right, int_wrap-mul_left, int_wrap-mul_right}
use Rattle.basic_values.specs.Laws.{IsInRange, DifferByMultiple}
use Rattle.basic_values.specs.Numbers.{low_bits, signed, wrap}
use Rattle.basic_values.proofs.WrapLemmas.{wrap-is, low_bits-lt}

-- a number is its low bits and a multiple
low_bits-differ : (z : ℤ) → DifferByMultiple z (pos (low_bits z))
low_bits-differ (pos n) = (pos (n / 65536), omega (arith, ints))
low_bits-differ (negsuc n) = (negsuc (n / 65536), omega (arith, ints))

signed-in_range : (n : ℕ) → n < 65536 → IsInRange (signed n)
signed-in_range n below =
    elim (ltb n 32768) as (λ b. ltb n 32768 ≡ b → IsInRange (cond b (pos n) (negsuc (65535 - n)))) [
      | true ↦ λ e. let lt = ltb-true n 32768 e in (omega (arith, ints), omega (arith, ints))
      | false ↦ λ e. let le = ltb-false n 32768 e in (omega (arith, ints), omega (arith, ints))
    ] refl

signed-differ : (z : ℤ) (n : ℕ) → n < 65536 → DifferByMultiple z (pos n) → DifferByMultiple z (signed n)
signed-differ z n below (times, same) =
    elim (ltb n 32768) as (λ b. DifferByMultiple z (cond b (pos n) (negsuc (65535 - n)))) [
      | true ↦ (times, same)
      | false ↦ (times +ℤ pos 1, omega (arith, ints, same))
    ]

pub wrap-in_range : (z : ℤ) → IsInRange (wrap z)
wrap-in_range z = signed-in_range (low_bits z) (low_bits-lt z)

pub wrap-differ : (z : ℤ) → DifferByMultiple z (wrap z)
wrap-differ z = signed-differ z (low_bits z) (low_bits-lt z) (low_bits-differ z)

same_in_range : (z a b s t : ℤ) → IsInRange a → IsInRange b → z ≡ a +ℤ s *ℤ pos 65536 → z ≡ b +ℤ t *ℤ pos 65536 → a ≡ b
same_in_range z a b s t in_a in_b at_a at_b = omega (arith, ints, in_a.0, in_a.1, in_b.0, in_b.1, at_a, at_b)

pub wrap_only : (z other : ℤ) → IsInRange other → DifferByMultiple z other → other ≡ wrap z
wrap_only z other within differ =
    let mine = wrap-differ z in
    same_in_range z other (wrap z) differ.0 mine.0 within (wrap-in_range z) differ.1 mine.1

pub wrap-sum : (a b : ℤ) → wrap (wrap a +ℤ wrap b) ≡ wrap (a +ℤ b)
wrap-sum a b =
    wrap-is (wrap a +ℤ wrap b) ∙ (λ i. int_wrap w16 (wrap-is a i +ℤ wrap-is b i))
    ∙ int_wrap-add_left w16 a (int_wrap w16 b) ∙ int_wrap-add_right w16 a b ∙ sym (wrap-is (a +ℤ b))

pub wrap-product : (a b : ℤ) → wrap (wrap a *ℤ wrap b) ≡ wrap (a *ℤ b)
wrap-product a b =
    wrap-is (wrap a *ℤ wrap b) ∙ (λ i. int_wrap w16 (wrap-is a i *ℤ wrap-is b i))
    ∙ int_wrap-mul_left w16 a (int_wrap w16 b) ∙ int_wrap-mul_right w16 a b ∙ sym (wrap-is (a *ℤ b))
