-- Digits read from the left, up to a bound on their value.
use Rattle.std.proofs.Common.{◌≡◌, ℕ, suc, ◌+◌, ◌-◌, ◌*◌, ◌<◌, Bool, cond, inl, inr, List, [], ◌∷◌, length, take, get_or, sym, subst, arith}
use Rattle.std.specs.Prelude.{min}
use Rattle.std.specs.Char.{is_ascii_digit, digit_value}
use Rattle.std.specs.Int.{IsInRange}
use Rattle.std.specs.List.{prefix_len}
use Rattle.std.specs.Str.Parse.{digits_value, AllDigits}
use Rattle.std.proofs.lemmas.Bool.{cases_Bool}
use Rattle.std.proofs.lemmas.Bool.Decides.{nat_tests}
use Rattle.std.proofs.lemmas.Int.Digits.{digits_value_more}
use Rattle.std.proofs.lemmas.Str.{digit_value_digit}
use Rattle.std.proofs.lemmas.Str.Parse.{digit_at}

-- one more digit
pub capped_step : (i v d : ℕ) (ds : List ℕ) → AllDigits 10 ds → i < length ds → v ≡ min (digits_value 10 (take i ds)) 32768 → d ≡ get_or ds i 0 - 48 → min (v * 10 + d) 32768 ≡ min (digits_value 10 (take (i + 1) ds)) 32768
capped_step i v d ds all lt so_far digit =
    let range = digit_at ds i all lt in
    omega (arith, digits_value_more 10 ds i lt, digit_value_digit (get_or ds i 0) range, so_far, digit)

-- the leading digits are digits
pub front_digits : (text : List ℕ) → AllDigits 10 (take (prefix_len is_ascii_digit text) text)
front_digits [] = tt
front_digits (c ∷ cs) =
    let OfFirst : ℕ → Type 0 = λ n. AllDigits 10 (take n (c ∷ cs)) in
    let Of : Bool → Type 0 = λ b. OfFirst (cond b (1 + prefix_len is_ascii_digit cs) 0) in
    elim (cases_Bool (is_ascii_digit c)) [
      | inl digit ↦
          let within : IsInRange 48 57 c = (grind (arith, nat_tests), grind (arith, nat_tests)) in
          let below : digit_value c < 10 = omega (arith, digit_value_digit c within) in
          let more : suc (prefix_len is_ascii_digit cs) ≡ 1 + prefix_len is_ascii_digit cs = omega arith in
          subst Of (sym digit) (subst OfFirst more (below, front_digits cs))
      | inr other ↦ subst Of (sym other) tt
    ]
