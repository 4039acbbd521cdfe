-- The text of a number of any size: its digits, and that no two numbers have the same.
use Rattle.std.proofs.Common.{◌≡◌, ℕ, zero, suc, ◌+◌, ◌-◌, ◌<◌, ◌≤◌, ◌^◌, Bool, true, false, cond, eqb, List, [], ◌∷◌, ◌++◌, length, get_or, refl, sym, ap, subst, ◌∙◌, append_assoc, arith, ◌⊎◌, inl, inr, pow-suc}
use Rattle.std.specs.Prelude.{◌*◌, ◌/◌, ◌%◌, nat_le}
use Rattle.std.specs.List.{list_all}
use Rattle.std.specs.Char.{is_ascii_digit}
use Rattle.std.specs.Fmt.{decimal, digits, digits_onto, digit_glyph}
use Rattle.std.proofs.lemmas.Bool.{leb-true, leb-false, lt-ltb, le-leb, eq-eqb, eqb-true, eqb-false, ne_eqb}
use Rattle.std.proofs.Math.ListN.{get_or-append}
use Rattle.std.proofs.lemmas.List.{append-nil, length-append}
use Rattle.basic_values.proofs.CutLaws.{and_left, and_right, and_both}
use Rattle.deck_model.specs.Histories.{count_text}

-- ---- one digit more

abbrev last_sign : ℕ → ℕ
last_sign n = digit_glyph false (n % 10)

last_is : (n : ℕ) → last_sign n ≡ 48 + n % 10
last_is n = ap (λ (b : Bool). cond b (48 + n % 10) (87 + n % 10)) (lt-ltb (n % 10) 10 (omega arith))

abbrev shown : ℕ → ℕ → List ℕ
shown j n = digits_onto j 10 false n []

one_sign : (j n : ℕ) → n / 10 ≡ 0 → shown (suc j) n ≡ (48 + n % 10) ∷ []
one_sign j n e =
    ap (λ (b : Bool). cond b (last_sign n ∷ []) (digits_onto j 10 false (n / 10) (last_sign n ∷ []))) (eq-eqb (n / 10) 0 e)
    ∙ ap (λ (c : ℕ). c ∷ []) (last_is n)

onto_if : (j n : ℕ) (acc : List ℕ) → ((more : List ℕ) → digits_onto j 10 false (n / 10) more ≡ shown j (n / 10) ++ more) → (b : Bool) → cond b (last_sign n ∷ acc) (digits_onto j 10 false (n / 10) (last_sign n ∷ acc)) ≡ cond b (last_sign n ∷ []) (digits_onto j 10 false (n / 10) (last_sign n ∷ [])) ++ acc
onto_if j n acc from true = refl
onto_if j n acc from false =
    from (last_sign n ∷ acc) ∙ sym (append_assoc (shown j (n / 10)) (last_sign n ∷ []) acc) ∙ ap (λ (t : List ℕ). t ++ acc) (sym (from (last_sign n ∷ [])))

onto : (j n : ℕ) (acc : List ℕ) → digits_onto j 10 false n acc ≡ shown j n ++ acc
onto zero n acc = refl
onto (suc j) n acc = onto_if j n acc (onto j (n / 10)) (eqb (n / 10) 0)

more_signs : (j n : ℕ) → (n / 10 ≡ 0 → ⊥) → shown (suc j) n ≡ shown j (n / 10) ++ (48 + n % 10) ∷ []
more_signs j n some =
    ap (λ (b : Bool). cond b (last_sign n ∷ []) (digits_onto j 10 false (n / 10) (last_sign n ∷ []))) (ne_eqb (n / 10) 0 some)
    ∙ onto j (n / 10) (last_sign n ∷ []) ∙ ap (λ (c : ℕ). shown j (n / 10) ++ c ∷ []) (last_is n)

-- ---- all digits are shown if there is space for them

below_power : (j : ℕ) → j < 10 ^ j
below_power zero = omega arith
below_power (suc j) = omega (arith, below_power j, pow-suc 10 j)

positive : (j n : ℕ) → (n / 10 ≡ 0 → ⊥) → n < 10 ^ suc j → 0 < j
positive zero n some small = absurd (some (omega (arith, small)))
positive (suc j) n some small = omega arith

same_if : (j k n : ℕ) → n < 10 ^ suc j → n < 10 ^ suc k → ((n / 10 ≡ 0 → ⊥) → shown j (n / 10) ≡ shown k (n / 10)) → shown (suc j) n ≡ shown (suc k) n
same_if j k n few many rest = go (eqb (n / 10) 0) refl
  where
    go : (b : Bool) → eqb (n / 10) 0 ≡ b → shown (suc j) n ≡ shown (suc k) n
    go true e = one_sign j n (eqb-true (n / 10) 0 e) ∙ sym (one_sign k n (eqb-true (n / 10) 0 e))
    go false e =
        let some : n / 10 ≡ 0 → ⊥ = λ z. let same : true ≡ false = sym (eq-eqb (n / 10) 0 z) ∙ e in absurd cc in
        more_signs j n some ∙ ap (λ (t : List ℕ). t ++ (48 + n % 10) ∷ []) (rest some) ∙ sym (more_signs k n some)

same_digits : (j k n : ℕ) → 0 < j → 0 < k → n < 10 ^ j → n < 10 ^ k → shown j n ≡ shown k n
same_digits zero k n j_some k_some few many = absurd (omega arith)
same_digits (suc j) zero n j_some k_some few many = absurd (omega arith)
same_digits (suc j) (suc k) n j_some k_some few many = same_if j k n few many (λ some. same_digits j k (n / 10) (positive j n some few) (positive k n some many) (omega (arith, few, pow-suc 10 j)) (omega (arith, many, pow-suc 10 k)))

shown_count : (n : ℕ) → count_text n ≡ shown (suc n) n
unfolding count_text
shown_count n = refl

shown_decimal : (n : ℕ) → decimal n ≡ shown 64 n
unfolding digits
shown_decimal n = refl

-- a machine's number is written as `decimal` writes it
pub count_decimal : (n : ℕ) → n < 2 ^ 64 → count_text n ≡ decimal n
count_decimal n small =
    let room : n < 10 ^ suc n = omega (arith, below_power (suc n)) in
    shown_count n ∙ same_digits (suc n) 64 n (omega arith) (omega arith) room (omega arith) ∙ sym (shown_decimal n)

-- ---- digit by digit

pub count_digit : (n : ℕ) → n < 10 → count_text n ≡ (48 + n) ∷ []
count_digit n small =
    let none : n / 10 ≡ 0 = omega arith in
    let same : 48 + n % 10 ≡ 48 + n = omega arith in
    shown_count n ∙ one_sign n n none ∙ ap (λ (c : ℕ). c ∷ []) same

pub count_step : (n : ℕ) → 10 ≤ n → count_text n ≡ count_text (n / 10) ++ (48 + n % 10) ∷ []
count_step n big =
    let less : n / 10 < n = omega arith in
    let room : n / 10 < 10 ^ n = omega (arith, below_power n) in
    let own : n / 10 < 10 ^ suc (n / 10) = omega (arith, below_power (suc (n / 10))) in
    shown_count n ∙ more_signs n n (λ z. omega arith)
    ∙ ap (λ (t : List ℕ). t ++ (48 + n % 10) ∷ []) (same_digits n (suc (n / 10)) (n / 10) (omega arith) (omega arith) room own ∙ sym (shown_count (n / 10)))

-- ---- the digits are those of a number

digit_is : (d : ℕ) → d < 10 → is_ascii_digit (48 + d) ≡ true
digit_is d small = and_both (nat_le 48 (48 + d)) (nat_le (48 + d) 57) (le-leb 48 (48 + d) (omega arith)) (le-leb (48 + d) 57 (omega arith))

digits_both : (xs ys : List ℕ) → list_all is_ascii_digit xs ≡ true → list_all is_ascii_digit ys ≡ true → list_all is_ascii_digit (xs ++ ys) ≡ true
digits_both [] ys l r = r
digits_both (x ∷ xs) ys l r =
    and_both (is_ascii_digit x) (list_all is_ascii_digit (xs ++ ys)) (and_left (is_ascii_digit x) (list_all is_ascii_digit xs) l) (digits_both xs ys (and_right (is_ascii_digit x) (list_all is_ascii_digit xs) l) r)

-- digits, of which the first is no 0 except for 0 itself
pub record IsNumberText (n : ℕ) (text : List ℕ) : Type 0 where
  pub all : list_all is_ascii_digit text ≡ true
  pub some : 0 < length text
  pub lead : ((n ≡ 0) × (length text ≡ 1)) ⊎ (48 < get_or text 0 0)

one_digit : (n : ℕ) (text : List ℕ) → n < 10 → text ≡ (48 + n) ∷ [] → IsNumberText n text
one_digit n text small is =
    let l : length text ≡ 1 = ap length is in
    record {
      all = subst (λ (t : List ℕ). list_all is_ascii_digit t ≡ true) (sym is) (and_both (is_ascii_digit (48 + n)) true (digit_is n small) refl);
      some = omega arith;
      lead = lead n (ap (λ (t : List ℕ). get_or t 0 0) is) l;
    }
  where
    lead : (m : ℕ) → get_or text 0 0 ≡ 48 + m → length text ≡ 1 → ((m ≡ 0) × (length text ≡ 1)) ⊎ (48 < get_or text 0 0)
    lead zero first l = inl (refl, l)
    lead (suc m) first l = inr (omega arith)

more_digits : (n : ℕ) (text front : List ℕ) → 10 ≤ n → text ≡ front ++ (48 + n % 10) ∷ [] → IsNumberText (n / 10) front → IsNumberText n text
more_digits n text front big is s =
    let l : length text ≡ suc (length front) = ap length is ∙ omega (arith, length-append front ((48 + n % 10) ∷ [])) in
    record {
      all = subst (λ (t : List ℕ). list_all is_ascii_digit t ≡ true) (sym is) (digits_both front ((48 + n % 10) ∷ []) s.all (and_both (is_ascii_digit (48 + n % 10)) true (digit_is (n % 10) (omega arith)) refl));
      some = omega arith;
      lead = lead s.lead;
    }
  where
    lead : ((n / 10 ≡ 0) × (length front ≡ 1)) ⊎ (48 < get_or front 0 0) → ((n ≡ 0) × (length text ≡ 1)) ⊎ (48 < get_or text 0 0)
    lead (inl zeros) = let none = zeros.0 in absurd (omega arith)
    lead (inr first) =
        inr (omega (arith, ap (λ (t : List ℕ). get_or t 0 0) is, get_or-append front ((48 + n % 10) ∷ []) 0 0 s.some))

number_if : (n : ℕ) → (10 ≤ n → IsNumberText (n / 10) (count_text (n / 10))) → (b : Bool) → nat_le 10 n ≡ b → IsNumberText n (count_text n)
number_if n front true e = let big = leb-true 10 n e in more_digits n (count_text n) (count_text (n / 10)) big (count_step n big) (front big)
number_if n front false e = let small = leb-false 10 n e in one_digit n (count_text n) (omega arith) (count_digit n (omega arith))

number_text : (m n : ℕ) → n < m → IsNumberText n (count_text n)
number_text zero n less = absurd (omega arith)
number_text (suc m) n less = number_if n (λ big. number_text m (n / 10) (omega (arith, big, less))) (nat_le 10 n) refl

pub is_number_text : (n : ℕ) → IsNumberText n (count_text n)
is_number_text n = number_text (suc n) n (omega arith)

-- ---- no two numbers have one text

value : ℕ → List ℕ → ℕ
value n [] = n
value n (c ∷ cs) = value (n * 10 + (c - 48)) cs

value_end : (n c : ℕ) (cs : List ℕ) → value n (cs ++ c ∷ []) ≡ value n cs * 10 + (c - 48)
unfolding value
value_end n c [] = refl
value_end n c (d ∷ cs) = value_end (n * 10 + (d - 48)) c cs

value_one : (c : ℕ) → value 0 (c ∷ []) ≡ c - 48
unfolding value
value_one c = omega arith

value_if : (n : ℕ) → (10 ≤ n → value 0 (count_text (n / 10)) ≡ n / 10) → (b : Bool) → nat_le 10 n ≡ b → value 0 (count_text n) ≡ n
value_if n tens true e =
    let big = leb-true 10 n e in
    let front : value 0 (count_text (n / 10)) ≡ n / 10 = tens big in
    ap (value 0) (count_step n big) ∙ value_end 0 (48 + n % 10) (count_text (n / 10)) ∙ omega arith
value_if n tens false e =
    let small = leb-false 10 n e in
    ap (value 0) (count_digit n (omega arith)) ∙ value_one (48 + n) ∙ omega arith

value_is : (m n : ℕ) → n < m → value 0 (count_text n) ≡ n
value_is zero n less = absurd (omega arith)
value_is (suc m) n less = value_if n (λ big. value_is m (n / 10) (omega (arith, big, less))) (nat_le 10 n) refl

pub count_one : (n k : ℕ) → count_text n ≡ count_text k → n ≡ k
count_one n k e = sym (value_is (suc n) n (omega arith)) ∙ ap (value 0) e ∙ value_is (suc k) k (omega arith)

-- ---- digits without a leading zero are the text of a number

digit_range : (c : ℕ) → is_ascii_digit c ≡ true → (48 ≤ c) × (c ≤ 57)
digit_range c e = (leb-true 48 c (and_left (nat_le 48 c) (nat_le c 57) e), leb-true c 57 (and_right (nat_le 48 c) (nat_le c 57) e))

-- a number that goes on with these digits
extended : (cs : List ℕ) (n : ℕ) → 0 < n → list_all is_ascii_digit cs ≡ true → (m : ℕ) × (count_text n ++ cs ≡ count_text m)
extended [] n some all = (n, append-nil (count_text n))
extended (c ∷ cs) n some all =
    let r = digit_range c (and_left (is_ascii_digit c) (list_all is_ascii_digit cs) all) in
    let m : ℕ = 10 * n + (c - 48) in
    let more = extended cs m (omega arith) (and_right (is_ascii_digit c) (list_all is_ascii_digit cs) all) in
    let front : m / 10 ≡ n = omega arith in
    let end : 48 + m % 10 ≡ c = omega arith in
    let one : count_text m ≡ count_text n ++ c ∷ [] = count_step m (omega arith) ∙ (λ i. count_text (front i) ++ end i ∷ []) in
    (more.0, sym (append_assoc (count_text n) (c ∷ []) cs) ∙ ap (λ (t : List ℕ). t ++ cs) (sym one) ∙ more.1)

pub digits_are : (first : ℕ) (others : List ℕ) → is_ascii_digit first ≡ true → list_all is_ascii_digit others ≡ true → ((first ≡ 48 → ⊥) ⊎ (others ≡ [])) → (m : ℕ) × (first ∷ others ≡ count_text m)
digits_are first others digit digits (inl other) =
    let r = digit_range first digit in
    let more = extended others (first - 48) (omega (arith, some r.0)) digits in
    let same : 48 + (first - 48) ≡ first = omega arith in
    (more.0, ap (λ (c : ℕ). c ∷ others) (sym same) ∙ ap (λ (t : List ℕ). t ++ others) (sym (count_digit (first - 48) (omega arith))) ∙ more.1)
  where
    some : 48 ≤ first → 0 < first - 48
    some least = go (eqb first 48) refl
      where
        go : (b : Bool) → eqb first 48 ≡ b → 0 < first - 48
        go true e = absurd (other (eqb-true first 48 e))
        go false e = let ne = eqb-false first 48 e in omega arith
digits_are first others digit digits (inr none) =
    let r = digit_range first digit in
    let same : 48 + (first - 48) ≡ first = omega arith in
    (first - 48, ap (λ (t : List ℕ). first ∷ t) none ∙ ap (λ (c : ℕ). c ∷ []) (sym same) ∙ sym (count_digit (first - 48) (omega arith)))
