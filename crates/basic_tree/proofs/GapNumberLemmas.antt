-- A blank after a number or a string changes nothing of it.
use Rattle.std.proofs.Common.{◌≡◌, ℕ, suc, ◌+◌, ◌<◌, ◌≤◌, Bool, true, false, List, [], ◌∷◌, ◌++◌, length, take, drop, refl, sym, ap, ◌∙◌, arith, ltb-true, ltb-false, lt-ltb, inl, inr, length-append}
use Rattle.std.specs.Prelude.{◌⊎◌, ◌==◌, ◌&&◌, ◌||◌, not, nat_lt, if◌then◌else◌, slice_index, Some, None}
use Rattle.std.specs.Char.{is_ascii_digit, to_ascii_uppercase}
use Rattle.std.specs.List.{prefix_len, position_or_len}
use Rattle.std.specs.Str.Parse.{digits_value}
use Rattle.std.proofs.Math.Seq.{get_or-append_seam}
use Rattle.std.proofs.lemmas.List.{drop-append-le}
use Rattle.basic_tree.specs.Tokens.{has_exponent, is_floating, digit_front, closed_front, quote_front}
use Rattle.basic_tree.specs.declared.tokens.TokenKind.{TokenKind}
use Rattle.basic_tree.specs.declared.tokens.TokenKind.TheVariants as kind
use Rattle.basic_tree.specs.declared.tokens.Cause.TheVariants as cause
use Rattle.basic_tree.specs.declared.tokens.Front.{Front}
use Rattle.basic_tree.specs.declared.tokens.Front.TheVariants as front
use Rattle.basic_tree.proofs.GapLemmas.{Gap, byte_same, front_same, went, passed}

or_false : (a b : Bool) → a ≡ false → b ≡ false → (a || b) ≡ false
or_false true b e f = absurd (cc)
or_false false b e f = f

or_left : (a b : Bool) → (a || b) ≡ false → a ≡ false
or_left true b e = absurd (cc)
or_left false b e = refl

or_right : (a b : Bool) → (a || b) ≡ false → b ≡ false
or_right true b e = absurd (cc)
or_right false b e = e

and_left_false : (a b : Bool) → a ≡ false → (a && b) ≡ false
and_left_false true b e = absurd (cc)
and_left_false false b e = refl

and_right_false : (a b : Bool) → b ≡ false → (a && b) ≡ false
and_right_false true b e = e
and_right_false false b e = refl

-- without the digit after a sign
exponent_gone : (e d s q g : Bool) → g ≡ false → (e && (d || (s && q))) ≡ false → (e && (d || (s && g))) ≡ false
exponent_gone false d s q g gone h = refl
exponent_gone true true s q g gone h = h
exponent_gone true false s q g gone h = and_right_false s g gone

-- digits that are no floating number are none before a gap either
floating_stays : (g : ℕ) (z y : List ℕ) → Gap g → is_floating (z ++ y) ≡ false → is_floating (z ++ g ∷ y) ≡ false
floating_stays g [] y gap h =
    or_false (g == 46) (to_ascii_uppercase g == 69 && has_exponent (g ∷ y)) gap.point (and_left_false (to_ascii_uppercase g == 69) (has_exponent (g ∷ y)) gap.exponent)
floating_stays g (a ∷ []) y gap h =
    or_false (a == 46) (to_ascii_uppercase a == 69 && has_exponent (a ∷ g ∷ y)) (or_left (a == 46) (to_ascii_uppercase a == 69 && has_exponent (a ∷ y)) h)
    (and_right_false (to_ascii_uppercase a == 69) (has_exponent (a ∷ g ∷ y))
    (or_false (is_ascii_digit g) ((g == 43 || g == 45) && is_ascii_digit (slice_index (a ∷ g ∷ y) 2)) gap.digit
    (and_left_false (g == 43 || g == 45) (is_ascii_digit (slice_index (a ∷ g ∷ y) 2)) (or_false (g == 43) (g == 45) gap.plus gap.minus))))
floating_stays g (a ∷ b ∷ []) y gap h =
    or_false (a == 46) (to_ascii_uppercase a == 69 && has_exponent (a ∷ b ∷ g ∷ y)) (or_left (a == 46) (to_ascii_uppercase a == 69 && has_exponent (a ∷ b ∷ y)) h)
    (exponent_gone (to_ascii_uppercase a == 69) (is_ascii_digit b) (b == 43 || b == 45) (is_ascii_digit (slice_index (a ∷ b ∷ y) 2)) (is_ascii_digit g) gap.digit (or_right (a == 46) (to_ascii_uppercase a == 69 && has_exponent (a ∷ b ∷ y)) h))
floating_stays g (a ∷ b ∷ c ∷ z) y gap h = h

run_same : (g : ℕ) (x y : List ℕ) → is_ascii_digit g ≡ false → prefix_len is_ascii_digit (x ++ y) ≤ length x → prefix_len is_ascii_digit (x ++ g ∷ y) ≡ prefix_len is_ascii_digit (x ++ y)
run_same g [] y none le =
    let nothing : 0 ≡ prefix_len is_ascii_digit y = omega arith in
    ap (λ d. if d then 1 + prefix_len is_ascii_digit y else 0) none ∙ nothing
run_same g (b ∷ x) y none le = go (is_ascii_digit b) le (run_same g x y none) where
  go : (d : Bool) → (if d then 1 + prefix_len is_ascii_digit (x ++ y) else 0) ≤ suc (length x) → (prefix_len is_ascii_digit (x ++ y) ≤ length x → prefix_len is_ascii_digit (x ++ g ∷ y) ≡ prefix_len is_ascii_digit (x ++ y)) → (if d then 1 + prefix_len is_ascii_digit (x ++ g ∷ y) else 0) ≡ (if d then 1 + prefix_len is_ascii_digit (x ++ y) else 0)
  go true le' again = ap (λ n. 1 + n) (again (omega arith))
  go false le' again = refl

-- the length of a literal: its digits, and `%`
literal_len : (m : Bool) (n len : ℕ) (k : TokenKind) → front.Token kind.Literal (if m then n + 1 else n) ≡ front.Token k len → (n ≤ len) × (m ≡ true → n + 1 ≡ len) × (kind.Literal ≡ k) × ((if m then n + 1 else n) ≡ len)
literal_len true n len k h = let is : n + 1 ≡ len = cc in let same : kind.Literal ≡ k = cc in (omega arith, λ _. is, same, is)
literal_len false n len k h = let is : n ≡ len = cc in let same : kind.Literal ≡ k = cc in (omega arith, λ e. absurd (cc), same, is)

percent_same : (g : ℕ) (x y : List ℕ) (n len : ℕ) → Gap g → n ≤ length x → len ≤ length x → ((slice_index (x ++ y) n == 37) ≡ true → n + 1 ≡ len) → (slice_index (x ++ g ∷ y) n == 37) ≡ (slice_index (x ++ y) n == 37)
percent_same g x y n len gap le fits more = go (nat_lt n (length x)) refl where
  denied : (b : Bool) → (b ≡ true → n + 1 ≡ len) → length x ≤ n → b ≡ false
  denied true f past = let is = f refl in absurd (omega arith)
  denied false f past = refl

  go : (b : Bool) → nat_lt n (length x) ≡ b → (slice_index (x ++ g ∷ y) n == 37) ≡ (slice_index (x ++ y) n == 37)
  go true e = ap (λ b. b == 37) (byte_same g x y n (ltb-true n (length x) e))
  go false e =
      let past = ltb-false n (length x) e in
      let end : n ≡ length x = omega arith in
      let there : slice_index (x ++ g ∷ y) n ≡ g = ap (λ i. slice_index (x ++ g ∷ y) i) end ∙ get_or-append_seam x g y 0 in
      ap (λ b. b == 37) there ∙ gap.percent ∙ sym (denied (slice_index (x ++ y) n == 37) more past)

abbrev literal_front : List ℕ → ℕ → Front
literal_front rest n = front.Token kind.Literal (if slice_index rest n == 37 then n + 1 else n)

abbrev narrow_front : List ℕ → ℕ → Front
narrow_front rest n = if nat_lt 32767 (digits_value 10 (take n rest)) then front.Refused cause.NumberTooWide else literal_front rest n

abbrev number_front : List ℕ → ℕ → Front
number_front rest n = if is_floating (drop n rest) then front.Refused cause.FloatingLiteral else narrow_front rest n

number_stays : (g : ℕ) (x y : List ℕ) (n : ℕ) (k : TokenKind) (len : ℕ) → Gap g → len ≤ length x → number_front (x ++ y) n ≡ front.Token k len → (n ≤ length x) × (number_front (x ++ g ∷ y) n ≡ front.Token k len)
number_stays g x y n k len gap le h = first (went (is_floating (drop n (x ++ y))) (front.Refused cause.FloatingLiteral) (narrow_front (x ++ y) n) (front.Token k len) h) where
  last : is_floating (drop n (x ++ y)) ≡ false → nat_lt 32767 (digits_value 10 (take n (x ++ y))) ≡ false → literal_front (x ++ y) n ≡ front.Token k len → (n ≤ length x) × (number_front (x ++ g ∷ y) n ≡ front.Token k len)
  last floats wide token =
      let is = literal_len (slice_index (x ++ y) n == 37) n len k token in
      let inside : n ≤ length x = omega (arith, is.0) in
      let apart : drop n (x ++ y) ≡ drop n x ++ y = drop-append-le n x y inside in
      let apart' : drop n (x ++ g ∷ y) ≡ drop n x ++ g ∷ y = drop-append-le n x (g ∷ y) inside in
      let floats' : is_floating (drop n (x ++ g ∷ y)) ≡ false = ap is_floating apart' ∙ floating_stays g (drop n x) y gap (ap is_floating (sym apart) ∙ floats) in
      let wide' : nat_lt 32767 (digits_value 10 (take n (x ++ g ∷ y))) ≡ false = ap (λ ds. nat_lt 32767 (digits_value 10 ds)) (front_same g x y n inside) ∙ wide in
      let token' : literal_front (x ++ g ∷ y) n ≡ front.Token k len = ap (λ m. front.Token kind.Literal (if m then n + 1 else n)) (percent_same g x y n len gap inside le is.1) ∙ token in
      (inside, passed (is_floating (drop n (x ++ g ∷ y))) (front.Refused cause.FloatingLiteral) (narrow_front (x ++ g ∷ y) n) (front.Token k len) floats' (passed (nat_lt 32767 (digits_value 10 (take n (x ++ g ∷ y)))) (front.Refused cause.NumberTooWide) (literal_front (x ++ g ∷ y) n) (front.Token k len) wide' token'))

  second : is_floating (drop n (x ++ y)) ≡ false → ((nat_lt 32767 (digits_value 10 (take n (x ++ y))) ≡ true) × (front.Refused cause.NumberTooWide ≡ front.Token k len)) ⊎ ((nat_lt 32767 (digits_value 10 (take n (x ++ y))) ≡ false) × (literal_front (x ++ y) n ≡ front.Token k len)) → (n ≤ length x) × (number_front (x ++ g ∷ y) n ≡ front.Token k len)
  second floats (inl w) = let never : front.Refused cause.NumberTooWide ≡ front.Token k len = w.1 in absurd (cc)
  second floats (inr w) = last floats w.0 w.1

  first : ((is_floating (drop n (x ++ y)) ≡ true) × (front.Refused cause.FloatingLiteral ≡ front.Token k len)) ⊎ ((is_floating (drop n (x ++ y)) ≡ false) × (narrow_front (x ++ y) n ≡ front.Token k len)) → (n ≤ length x) × (number_front (x ++ g ∷ y) n ≡ front.Token k len)
  first (inl w) = let never : front.Refused cause.FloatingLiteral ≡ front.Token k len = w.1 in absurd (cc)
  first (inr w) = second w.0 (went (nat_lt 32767 (digits_value 10 (take n (x ++ y)))) (front.Refused cause.NumberTooWide) (literal_front (x ++ y) n) (front.Token k len) w.1)

pub digit_stays : (g : ℕ) (x y : List ℕ) (k : TokenKind) (len : ℕ) → Gap g → len ≤ length x → digit_front (x ++ y) ≡ front.Token k len → digit_front (x ++ g ∷ y) ≡ front.Token k len
unfolding digit_front
digit_stays g x y k len gap le h =
    let at = number_stays g x y (prefix_len is_ascii_digit (x ++ y)) k len gap le h in
    ap (number_front (x ++ g ∷ y)) (run_same g x y gap.digit at.0) ∙ at.1

-- ---- strings

before_same : (p : ℕ → Bool) (g : ℕ) (x y : List ℕ) → prefix_len p (x ++ y) < length x → prefix_len p (x ++ g ∷ y) ≡ prefix_len p (x ++ y)
before_same p g [] y lt = absurd (omega arith)
before_same p g (b ∷ x) y lt = go (p b) lt (before_same p g x y) where
  go : (d : Bool) → (if d then 1 + prefix_len p (x ++ y) else 0) < suc (length x) → (prefix_len p (x ++ y) < length x → prefix_len p (x ++ g ∷ y) ≡ prefix_len p (x ++ y)) → (if d then 1 + prefix_len p (x ++ g ∷ y) else 0) ≡ (if d then 1 + prefix_len p (x ++ y) else 0)
  go true lt' again = ap (λ n. 1 + n) (again (omega arith))
  go false lt' again = refl

string_len : (b : Bool) (n len : ℕ) (k : TokenKind) → closed_front (if b then Some n else None) ≡ front.Token k len → n + 2 ≡ len
string_len true n len k h = cc
string_len false n len k h = absurd (cc)

string_is : (b : Bool) (n len : ℕ) (k : TokenKind) → closed_front (if b then Some n else None) ≡ front.Token k len → front.Token kind.Quoted (n + 2) ≡ front.Token k len
string_is true n len k h = h
string_is false n len k h = absurd (cc)

pub quote_stays : (g : ℕ) (x y : List ℕ) (k : TokenKind) (len : ℕ) → len ≤ length x → quote_front (x ++ y) ≡ front.Token k len → quote_front (x ++ g ∷ y) ≡ front.Token k len
unfolding quote_front
quote_stays g [] y k len le h =
    let is = string_len (nat_lt (position_or_len (λ b. b == slice_index y 0) (drop 1 y)) (length (drop 1 y))) (position_or_len (λ b. b == slice_index y 0) (drop 1 y)) len k h in
    absurd (omega arith)
quote_stays g (q ∷ x) y k len le h =
    let n : ℕ = position_or_len (λ b. b == q) (x ++ y) in
    let is : n + 2 ≡ len = string_len (nat_lt n (length (x ++ y))) n len k h in
    let same : position_or_len (λ b. b == q) (x ++ g ∷ y) ≡ n = before_same (λ b. not (b == q)) g x y (omega arith) in
    let found : nat_lt n (length (x ++ g ∷ y)) ≡ true = lt-ltb n (length (x ++ g ∷ y)) (omega (arith, length-append x (g ∷ y))) in
    ap (λ m. closed_front (if nat_lt m (length (x ++ g ∷ y)) then Some m else None)) same
    ∙ ap (λ b. closed_front (if b then Some n else None)) found
    ∙ string_is (nat_lt n (length (x ++ y))) n len k h
