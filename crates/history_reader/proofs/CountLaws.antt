-- Which texts are those of numbers, of any size.
use Rattle.std.proofs.Common.{◌≡◌, ℕ, suc, ◌<◌, Bool, true, false, eqb, ltb, List, [], ◌∷◌, length, refl, sym, ap, ◌∙◌, arith, ◌⊎◌, inl, inr, subst}
use Rattle.std.specs.Prelude.{◌&&◌, ◌||◌, not, ◌≤◌, bytes_eq, codes}
use Rattle.std.specs.List.{list_all}
use Rattle.std.specs.Char.{is_ascii_digit}
use Rattle.std.specs.Cmp.Lexicographic.{bytes_decides}
use Rattle.std.proofs.lemmas.Bool.{eq-eqb, eqb-true, eqb-false, ne_eqb, ltb-true, ltb-false}
use Rattle.basic_values.proofs.CutLaws.{Lacks, kind_lacks, and_left, and_right, and_both}
use Rattle.deck_model.specs.Histories.{count_text}
use Rattle.deck_model.proofs.CountTexts.{IsNumberText, is_number_text, digits_are}
use Rattle.history_reader.specs.Counts.{is_count, IsCount, is_star, Counts, Allows}

pub number_lacks : (n : ℕ) → Lacks 10 (count_text n)
number_lacks n =
    let s = is_number_text n in
    kind_lacks is_ascii_digit 10 refl (count_text n) s.all

or_last : (a : Bool) → (a || true) ≡ true
or_last true = refl
or_last false = refl

count_if : (text : List ℕ) (n : ℕ) → IsNumberText n text → is_count text ≡ true
count_if [] n s = absurd (omega (arith, s.some))
count_if (first ∷ others) n s = and_both (list_all is_ascii_digit (first ∷ others)) (not (eqb first 48) || eqb (length others) 0) s.all (lead s.lead)
  where
    lead : ((n ≡ 0) × (length (first ∷ others) ≡ 1)) ⊎ (48 < first) → (not (eqb first 48) || eqb (length others) 0) ≡ true
    lead (inl e) =
        let one = e.1 in
        rw (eq-eqb (length others) 0 (omega arith)) (or_last (not (eqb first 48)))
    lead (inr e) = rw (ne_eqb first 48 (λ same. omega arith)) refl

pub shown_count : (n : ℕ) → is_count (count_text n) ≡ true
shown_count n = count_if (count_text n) n (is_number_text n)

no_others : (others : List ℕ) → eqb (length others) 0 ≡ true → others ≡ []
no_others [] e = refl
no_others (b ∷ others) e = let none = eqb-true (length (b ∷ others)) 0 e in absurd (omega arith)

-- the first is no 0, or nothing follows it
lead_by : (first : ℕ) (others : List ℕ) (is_zero is_last : Bool) → eqb first 48 ≡ is_zero → eqb (length others) 0 ≡ is_last → (not is_zero || is_last) ≡ true → (first ≡ 48 → ⊥) ⊎ (others ≡ [])
lead_by first others false is_last zero last e = inl (eqb-false first 48 zero)
lead_by first others true true zero last e = inr (no_others others last)
lead_by first others true false zero last e = absurd cc

pub count_shown : (text : List ℕ) → is_count text ≡ true → IsCount text
count_shown [] e = absurd cc
count_shown (first ∷ others) e =
    let all : Bool = list_all is_ascii_digit (first ∷ others) in
    let lead : Bool = not (eqb first 48) || eqb (length others) 0 in
    let digits = and_left all lead e in
    digits_are first others (and_left (is_ascii_digit first) (list_all is_ascii_digit others) digits) (and_right (is_ascii_digit first) (list_all is_ascii_digit others) digits)
    (lead_by first others (eqb first 48) (eqb (length others) 0) refl refl (and_right all lead e))

-- ---- a star, or a number

-- a number is no star
pub no_star : (n : ℕ) → count_text n ≡ codes "*" → ⊥
no_star n e = let both : false ≡ true = sym (ap is_count e) ∙ shown_count n in cc

pub counts_lack : (count : List ℕ) (n : ℕ) → Counts count n → Lacks 10 count
counts_lack count n (inl shown) = subst (Lacks 10) (sym shown) (number_lacks n)
counts_lack count n (inr star) = subst (Lacks 10) (sym star) (refl, tt)

pub allowed_if : (count : List ℕ) → (is_star count || is_count count) ≡ true → Allows count 0
allowed_if count e = go (is_star count) refl e
  where
    go : (star : Bool) → is_star count ≡ star → (star || is_count count) ≡ true → Allows count 0
    go true s e = (0, omega arith, inr ((bytes_decides count (codes "*")).0 s))
    go false s e = let number = count_shown count e in (number.0, omega arith, inl number.1)

pub if_counts : (count : List ℕ) (n : ℕ) → Counts count n → (is_star count || is_count count) ≡ true
if_counts count n (inl shown) = ap (λ (t : Bool). is_star count || t) (ap is_count shown ∙ shown_count n) ∙ or_last (is_star count)
if_counts count n (inr star) = ap (λ (t : Bool). t || is_count count) ((bytes_decides count (codes "*")).1 star)

pub met_if : (count : List ℕ) (n : ℕ) → (is_star count || bytes_eq count (count_text n)) ≡ true → Counts count n
met_if count n e = go (is_star count) refl e
  where
    go : (star : Bool) → is_star count ≡ star → (star || bytes_eq count (count_text n)) ≡ true → Counts count n
    go true s e = inr ((bytes_decides count (codes "*")).0 s)
    go false s e = inl ((bytes_decides count (count_text n)).0 e)

pub if_met : (count : List ℕ) (n : ℕ) → Counts count n → (is_star count || bytes_eq count (count_text n)) ≡ true
if_met count n (inl shown) = ap (λ (t : Bool). is_star count || t) ((bytes_decides count (count_text n)).1 shown) ∙ or_last (is_star count)
if_met count n (inr star) = ap (λ (t : Bool). t || bytes_eq count (count_text n)) ((bytes_decides count (codes "*")).1 star)

-- a count that does not show this many entries allows one more
pub one_allowed : (count : List ℕ) (n : ℕ) → (count ≡ count_text n → ⊥) → Allows count n → Allows count (suc n)
one_allowed count n unmet allows = go allows.2
  where
    go : Counts count allows.0 → Allows count (suc n)
    go (inr star) = (suc n, omega arith, inr star)
    go (inl shown) = by (ltb n allows.0) refl
      where
        by : (less : Bool) → ltb n allows.0 ≡ less → Allows count (suc n)
        by true e = let l = ltb-true n allows.0 e in (allows.0, omega (arith, l), inl shown)
        by false e =
            let l = ltb-false n allows.0 e in
            let few = allows.1 in
            let same : allows.0 ≡ n = omega arith in
            absurd (unmet (shown ∙ ap count_text same))
