-- A quotient drops its fraction.
use Rattle.std.proofs.Common.{◌≡◌, ◌≢◌, ◌⊎◌, ℕ, zero, suc, ◌/◌, ◌<◌, ℤ, pos, negsuc, ◌+ℤ◌, ◌*ℤ◌, neg_ℤ, refl, sym, ap, ◌∙◌, inl, inr, add-one, arith}
use Rattle.std.specs.Prelude.{int_div, int_rem, int_lt, unsigned_abs}
use Rattle.std.proofs.lemmas.Bool.{le-ltb}
use Rattle.std.proofs.lemmas.Int.{quot-rem, rem_below}
use Rattle.basic_values.specs.Arithmetic.{truncated}
use Rattle.basic_values.specs.Laws.{DividesTowardsZero}

truncated-is : (a b : ℤ) → truncated a b ≡ int_div a b
truncated-is (pos a) (pos b) = refl
truncated-is (pos a) (negsuc b) = ap (λ n. neg_ℤ (pos (a / n))) (add-one b)
truncated-is (negsuc a) (pos b) = ap (λ n. neg_ℤ (pos (n / b))) (add-one a)
truncated-is (negsuc a) (negsuc b) = λ i. pos (add-one a i / add-one b i)

rest_negative : (a r : ℕ) → (neg_ℤ (pos r) ≡ pos 0) ⊎ (int_lt (neg_ℤ (pos r)) (pos 0) ≡ int_lt (negsuc a) (pos 0))
rest_negative a zero = inl refl
rest_negative a (suc r) = inr refl

rest_signed : (a b : ℤ) → (int_rem a b ≡ pos 0) ⊎ (int_lt (int_rem a b) (pos 0) ≡ int_lt a (pos 0))
rest_signed (pos a) b = inr (le-ltb _ 0 (omega arith) ∙ sym (le-ltb a 0 (omega arith)))
rest_signed (negsuc a) b = rest_negative a _

has_size : (b : ℤ) → b ≢ pos 0 → 0 < unsigned_abs b
has_size (pos zero) not_zero = absurd (not_zero refl)
has_size (pos (suc n)) not_zero = omega arith
has_size (negsuc n) not_zero = omega arith

pub towards_zero : (a b : ℤ) → b ≢ pos 0 → DividesTowardsZero a b
towards_zero a b not_zero = (
  int_rem a b,
  sym (quot-rem a b) ∙ ap (λ q. q *ℤ b +ℤ int_rem a b) (sym (truncated-is a b)),
  rem_below a b (has_size b not_zero),
  rest_signed a b,
)
