-- The first of some nesting levels that is too deep. There is one only if not all are within the
-- limit, and none before it is too deep.
use Rattle.std.proofs.Common.{subst, ◌≡◌, ℕ, suc, ◌<◌, ◌≤◌, Bool, true, false, All, List, [], ◌∷◌, take, get_or, Option, Some, None, refl, sym, ◌∙◌, arith}
use Rattle.std.specs.Prelude.{nat_lt, position}
use Rattle.std.proofs.lemmas.Grind.{common_steps}
use Rattle.std.proofs.lemmas.List.{get_or-take, length-take}
use Rattle.std.proofs.lemmas.List.Elements.{All-nil, All-cons, All-get_or, All-from_get_or}
use Rattle.std.proofs.lemmas.List.Quantifiers.{position-Some}
use Rattle.std.proofs.lemmas.Option.{none-some}
use Rattle.basic_tree.specs.SpellingWords.{most_levels}

pub first : (x : ℕ) (xs : List ℕ) → most_levels < x → position (λ level. nat_lt most_levels level) (x ∷ xs) ≡ Some 0
first x xs lt = let e : nat_lt most_levels x ≡ true = grind arith in rw e (grind (arith, common_steps))

pub later : (x : ℕ) (xs : List ℕ) (i : ℕ) → x ≤ most_levels → position (λ level. nat_lt most_levels level) xs ≡ Some i → position (λ level. nat_lt most_levels level) (x ∷ xs) ≡ Some (suc i)
later x xs i le h = let e : nat_lt most_levels x ≡ false = grind arith in rw e (grind (arith, common_steps))

pub never : (x : ℕ) (xs : List ℕ) → x ≤ most_levels → position (λ level. nat_lt most_levels level) xs ≡ None → position (λ level. nat_lt most_levels level) (x ∷ xs) ≡ None
never x xs le h = let e : nat_lt most_levels x ≡ false = grind arith in rw e (grind (arith, common_steps))

-- if none is too deep, all are within the limit
pub all_within : (xs : List ℕ) → position (λ level. nat_lt most_levels level) xs ≡ None → All (λ level. level ≤ most_levels) xs
all_within [] h = All-nil (λ level. level ≤ most_levels)
all_within (x ∷ xs) h = go (nat_lt most_levels x) refl (λ e. all_within xs e) where
  behind : (o : Option ℕ) → x ≤ most_levels → position (λ level. nat_lt most_levels level) xs ≡ o → position (λ level. nat_lt most_levels level) xs ≡ None
  behind None le e = e
  behind (Some i) le e = absurd (none-some (suc i) (sym h ∙ later x xs i le e))

  go : (b : Bool) → nat_lt most_levels x ≡ b → (position (λ level. nat_lt most_levels level) xs ≡ None → All (λ level. level ≤ most_levels) xs) → All (λ level. level ≤ most_levels) (x ∷ xs)
  go true e on = absurd (none-some 0 (sym h ∙ first x xs (grind arith)))
  go false e on =
      let le : x ≤ most_levels = grind arith in
      All-cons (λ level. level ≤ most_levels) x xs le (on (behind (position (λ level. nat_lt most_levels level) xs) le refl))

-- those before the first that is too deep are within the limit
pub within_before : (xs : List ℕ) (k : ℕ) → position (λ level. nat_lt most_levels level) xs ≡ Some k → All (λ level. level ≤ most_levels) (take k xs)
within_before xs k h =
    let f = position-Some (λ level. nat_lt most_levels level) xs k 0 h in
    All-from_get_or (λ level. level ≤ most_levels) (take k xs) 0 (λ i lt.
    let before : i < k = omega (arith, lt, length-take k xs) in
    let small : nat_lt most_levels (get_or xs i 0) ≡ false = f.2 i before in
    let le : get_or xs i 0 ≤ most_levels = grind arith in
    subst (λ (x : ℕ). x ≤ most_levels) (sym (get_or-take k xs i 0 before)) le)

-- those up to the first that is too deep, with it, are not all within the limit
pub not_within : (xs : List ℕ) (k i : ℕ) → position (λ level. nat_lt most_levels level) xs ≡ Some k → k < i → All (λ level. level ≤ most_levels) (take i xs) → ⊥
not_within xs k i h lt all =
    let f = position-Some (λ level. nat_lt most_levels level) xs k 0 h in
    let large : nat_lt most_levels (get_or xs k 0) ≡ true = f.1 in
    let over : most_levels < get_or xs k 0 = grind arith in
    let le : get_or (take i xs) k 0 ≤ most_levels = All-get_or (λ level. level ≤ most_levels) (take i xs) k 0 (omega (arith, lt, f.0, length-take i xs)) all in
    omega (arith, over, le, get_or-take i xs k 0 lt)
