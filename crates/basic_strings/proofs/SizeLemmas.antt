-- Absolute values that digits spell.
use Rattle.std.proofs.Common.{◌≡◌, ℕ, ◌+◌, ◌-◌, ◌*◌, ◌<◌, min, zero, suc, Bool, true, false, Option, cond, List, [], ◌∷◌, length, take, get_or, Some, None, refl, ap, arith}
use Rattle.std.specs.Int.{IsInRange}
use Rattle.std.specs.Str.{all_ascii_digits}
use Rattle.std.specs.Str.Parse.{AllDigits, digits_value}
use Rattle.std.specs.Prelude.{option_map}
use Rattle.std.proofs.lemmas.Bool.{false_from_ne_true}
use Rattle.std.proofs.lemmas.Bool.Decides.{nat_tests}
use Rattle.std.proofs.lemmas.Int.Digits.{digits_value_more}
use Rattle.std.proofs.lemmas.Str.{digit_value_digit}
use Rattle.std.proofs.lemmas.Str.Parse.{IsNumeralModel, numerals_by_value, tells_all_ascii_digits, digit_at}
use Rattle.basic_strings.specs.Readings.{judged, size_spelled, with_sign}

numeral : IsNumeralModel (λ ds. all_ascii_digits ds ≡ true) (digits_value 10)
numeral = numerals_by_value _ tells_all_ascii_digits

-- a string with a byte that is no digit spells none
pub no_size : (text : List ℕ) (i : ℕ) → i < length text → (IsInRange 48 57 (get_or text i 0) → ⊥) → size_spelled text ≡ None
no_size [] i within other = refl
no_size (x ∷ xs) i within other =
    ap (λ b. cond b (Some (digits_value 10 (x ∷ xs))) None)
    (false_from_ne_true (all_ascii_digits (x ∷ xs)) (λ e. other (digit_at (x ∷ xs) i (numeral.to (x ∷ xs) e) within)))

-- digits alone spell their number
pub size_of_digits : (text : List ℕ) → 0 < length text → AllDigits 10 text → size_spelled text ≡ Some (digits_value 10 text)
size_of_digits [] some all = absurd (omega (arith, some))
size_of_digits (x ∷ xs) some all = ap (λ b. cond b (Some (digits_value 10 (x ∷ xs))) None) (numeral.from (x ∷ xs) all)

-- one more digit; a value beyond 16 bits stays as it is
pub size_step : (text : List ℕ) (i size d : ℕ) → i < length text → IsInRange 48 57 (get_or text i 0) → d ≡ get_or text i 0 - 48 → size ≡ min 32769 (digits_value 10 (take i text)) → min (size * 10 + d) 32769 ≡ min 32769 (digits_value 10 (take (i + 1) text))
size_step text i size d within digit same so_far =
    omega (arith, digits_value_more 10 text i within, digit_value_digit (get_or text i 0) digit, same, so_far)

-- a value that is capped beyond 16 bits is rejected as the value itself is
pub capped : (b : Bool) (no_number : ℕ) (o : Option ℕ) → judged no_number (option_map (with_sign b) (option_map (min 32769) o)) ≡ judged no_number (option_map (with_sign b) o)
capped b no_number None = refl
capped true no_number (Some zero) = refl
capped true no_number (Some (suc n)) = grind (arith, nat_tests)
capped false no_number (Some n) = grind (arith, nat_tests)
