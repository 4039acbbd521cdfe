-- Digits read from the left, and the number that they spell.
use Rattle.std.proofs.Common.{◌≡◌, ℕ, zero, suc, ◌+◌, ◌-◌, ◌*◌, ◌^◌, ◌<◌, ◌≤◌, Bool, true, false, List, [], ◌∷◌, length, take, get_or, refl, sym, ap, subst, arith}
use Rattle.std.specs.Fmt.{decimal}
use Rattle.std.specs.Prelude.{◌&&◌, nat_le, if◌then◌else◌, Some, None}
use Rattle.std.specs.Str.Parse.{digits_value, AllDigits}
use Rattle.std.proofs.Math.Nat.{pow-le-pow_right}
use Rattle.std.proofs.lemmas.Fmt.{decimal_is_IsNumeral, length-decimal-le}
use Rattle.std.proofs.lemmas.Int.Digits.{digits_value-lt, digits_value_more}
use Rattle.std.proofs.lemmas.List.{length-take-le}
use Rattle.std.proofs.lemmas.Str.{digit_value_digit}
use Rattle.std.proofs.lemmas.Str.Parse.{digit_at}
use Rattle.std.proofs.lemmas.Bool.{leb-true, false_from_ne_true}
use Rattle.std.specs.Cmp.Lexicographic.{bytes_decides}
use Rattle.basic_values.specs.Decimals.{is_number_between, number_between}

digits-take : (i : ℕ) (ds : List ℕ) → AllDigits 10 ds → AllDigits 10 (take i ds)
digits-take zero ds all = tt
digits-take (suc i) [] all = tt
digits-take (suc i) (d ∷ ds) all = (all.0, digits-take i ds all.1)

-- the number that the first digits spell, if there are few
pub value_below : (i : ℕ) (ds : List ℕ) → AllDigits 10 ds → i < length ds → length ds ≤ 10 → digits_value 10 (take i ds) < 10 ^ 9
value_below i ds all lt short =
    let len : length (take i ds) ≡ i = length-take-le i ds (omega arith) in
    let below : digits_value 10 (take i ds) < 10 ^ length (take i ds) = digits_value-lt 10 (take i ds) (digits-take i ds all) in
    let at : digits_value 10 (take i ds) < 10 ^ i = subst (λ k. digits_value 10 (take i ds) < 10 ^ k) len below in
    let most : 10 ^ i ≤ 10 ^ 9 = pow-le-pow_right {n = 10} (omega arith) {i = i} {j = 9} (omega arith) in
    omega arith

-- one more digit
pub value_step : (i v d : ℕ) (ds : List ℕ) → AllDigits 10 ds → i < length ds → v ≡ digits_value 10 (take i ds) → d ≡ get_or ds i 0 - 48 → v * 10 + d ≡ digits_value 10 (take (i + 1) ds)
value_step i v d ds all lt so_far digit =
    let range = digit_at ds i all lt in
    omega (arith, digits_value_more 10 ds i lt, digit_value_digit (get_or ds i 0) range, so_far, digit)

and_left : (a b : Bool) → (a && b) ≡ true → a ≡ true
and_left true b e = refl
and_left false b e = absurd (cc)

and_right : (a b : Bool) → (a && b) ≡ true → b ≡ true
and_right true b e = e
and_right false b e = absurd (cc)

-- the decimal form of a 32-bit number has few digits
pub decimal_is_short : (low high : ℕ) (text : List ℕ) → high < 2 ^ 32 → is_number_between low high text ≡ true → (length text ≤ 10) × AllDigits 10 text
decimal_is_short low high text fits e =
    let v : ℕ = digits_value 10 text in
    let same : text ≡ decimal v = (bytes_decides text (decimal v)).0 (and_left _ _ (and_left _ _ e)) in
    let low_ok : nat_le v high ≡ true = and_right _ _ e in
    let small : v < 2 ^ 32 = omega (arith, leb-true v high low_ok) in
    let few : length (decimal v) ≤ 10 = length-decimal-le 10 v (omega arith) (omega arith) (omega arith) in
    let digits : AllDigits 10 (decimal v) = (decimal_is_IsNumeral v (omega arith)).0.1 in
    subst (λ (t : List ℕ). (length t ≤ 10) × AllDigits 10 t) (sym same) (few, digits)

pub not_short : (low high : ℕ) (text : List ℕ) → high < 2 ^ 32 → ((length text ≤ 10) × AllDigits 10 text → ⊥) → None ≡ number_between low high text
not_short low high text fits no_digits =
    let no : is_number_between low high text ≡ false = false_from_ne_true _ (λ e. no_digits (decimal_is_short low high text fits e)) in
    sym (ap (λ b. if b then Some (digits_value 10 text) else None) no)
