-- Digits read from the left, up to a limit.
use Rattle.std.proofs.Common.{◌≡◌, ℕ, zero, suc, ◌+◌, ◌-◌, ◌*◌, ◌<◌, Bool, true, false, List, [], ◌∷◌, length, take, get_or, refl, arith, one-add}
use Rattle.std.specs.Prelude.{◌&&◌, min}
use Rattle.std.specs.List.{list_all, prefix_len}
use Rattle.std.specs.Char.{is_ascii_digit}
use Rattle.std.specs.Int.{IsInRange}
use Rattle.std.specs.Str.Parse.{digits_value}
use Rattle.std.proofs.lemmas.Bool.Decides.{nat_tests}
use Rattle.std.proofs.lemmas.Int.Digits.{digits_value_more}
use Rattle.std.proofs.lemmas.Str.{digit_value_digit}

and_split : (a b : Bool) → (a && b) ≡ true → (a ≡ true) × (b ≡ true)
and_split true true e = (refl, refl)
and_split true false e = absurd (cc)
and_split false b e = absurd (cc)

passes_at : (p : ℕ → Bool) (text : List ℕ) (i : ℕ) → list_all p text ≡ true → i < length text → p (get_or text i 0) ≡ true
passes_at p [] i all lt = absurd (omega arith)
passes_at p (byte ∷ text) zero all lt = (and_split (p byte) (list_all p text) all).0
passes_at p (byte ∷ text) (suc i) all lt = passes_at p text i (and_split (p byte) (list_all p text) all).1 (omega arith)

pub digit_range : (byte : ℕ) → is_ascii_digit byte ≡ true → IsInRange 48 57 byte
digit_range byte e = (grind (arith, nat_tests), grind (arith, nat_tests))

pub digit_at : (digits : List ℕ) (i : ℕ) → list_all is_ascii_digit digits ≡ true → i < length digits → IsInRange 48 57 (get_or digits i 0)
digit_at digits i all lt = digit_range (get_or digits i 0) (passes_at is_ascii_digit digits i all lt)

-- one more digit
pub limited_step : (digits : List ℕ) (i value digit limit : ℕ) → list_all is_ascii_digit digits ≡ true → i < length digits → value ≡ min (digits_value 10 (take i digits)) limit → digit ≡ get_or digits i 0 - 48
    → min (value * 10 + digit) limit ≡ min (digits_value 10 (take (i + 1) digits)) limit
limited_step digits i value digit limit all lt so_far is =
    let range = digit_at digits i all lt in
    omega (arith, digits_value_more 10 digits i lt, digit_value_digit (get_or digits i 0) range, so_far, is)

-- the leading digits
front_by : (p : ℕ → Bool) (byte : ℕ) (text : List ℕ) (b : Bool) → p byte ≡ b → list_all p (take (prefix_len p text) text) ≡ true → list_all p (take (prefix_len p (byte ∷ text)) (byte ∷ text)) ≡ true
front_by p byte text true is more = rw (is, one-add) (rw (is, more) refl)
front_by p byte text false is more = rw is refl

pub front_passes : (p : ℕ → Bool) (text : List ℕ) → list_all p (take (prefix_len p text) text) ≡ true
front_passes p [] = refl
front_passes p (byte ∷ text) = front_by p byte text (p byte) refl (front_passes p text)
