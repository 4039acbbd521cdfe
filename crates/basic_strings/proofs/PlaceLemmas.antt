-- The first place at which a string is in another.
use Rattle.std.proofs.Common.{◌≡◌, ℕ, suc, ◌+◌, ◌-◌, ◌<◌, ◌≤◌, Bool, true, false, cond, List, length, Some, None, ℤ, pos, negsuc, sym, ap, ◌∙◌, arith}
use Rattle.std.specs.Prelude.{unwrap_or}
use Rattle.std.specs.List.{find, range_with_len}
use Rattle.basic_strings.specs.Cuts.{place_given}
use Rattle.basic_strings.specs.Places.{stands_at, places_from, place_of}

pub place_given-positive : (n : ℤ) → 1 ≤ place_given n
place_given-positive (pos n) = omega arith
place_given-positive (negsuc n) = omega arith

-- one place is tried before the others
pub find-first : (P : ℕ → Bool) (place : ℕ) (text : List ℕ) → place ≤ length text + 1 → find P (places_from place text) ≡ cond (P place) (Some place) (find P (places_from (place + 1) text))
find-first P place text within =
    let count : length text + 2 - place ≡ suc (length text + 2 - (place + 1)) = omega arith in
    ap (λ k. find P (range_with_len place k)) count

-- after the last place there is none
pub find-behind : (P : ℕ → Bool) (place : ℕ) (text : List ℕ) → length text + 1 < place → find P (places_from place text) ≡ None
find-behind P place text past =
    let count : length text + 2 - place ≡ 0 = omega arith in
    ap (λ k. find P (range_with_len place k)) count

-- the places before the given one have been tried, without success
abbrev pub NothingBefore : ℤ → List ℕ → List ℕ → ℕ → Type 0
NothingBefore from text sought before = find (stands_at text sought) (places_from (before + 1) text) ≡ find (stands_at text sought) (places_from (place_given from) text)

pub nothing_before_start : (from : ℤ) (text sought : List ℕ) (start : ℕ) → start ≡ place_given from - 1 → NothingBefore from text sought start
nothing_before_start from text sought start same =
    let at : start + 1 ≡ place_given from = omega (arith, same, place_given-positive from) in
    ap (λ place. find (stands_at text sought) (places_from place text)) at

pub place_here : (from : ℤ) (text sought : List ℕ) (before : ℕ) → NothingBefore from text sought before → before ≤ length text → stands_at text sought (before + 1) ≡ true → place_of from text sought ≡ pos (before + 1)
unfolding place_of
place_here from text sought before tried within here =
    let P = stands_at text sought in
    ap (λ o. pos (unwrap_or o 0))
    (sym tried ∙ find-first P (before + 1) text (omega arith)
    ∙ ap (λ b. cond b (Some (before + 1)) (find P (places_from (before + 1 + 1) text))) here)

pub place_after : (from : ℤ) (text sought : List ℕ) (before : ℕ) → NothingBefore from text sought before → before ≤ length text → stands_at text sought (before + 1) ≡ false → NothingBefore from text sought (before + 1)
place_after from text sought before tried within other =
    let P = stands_at text sought in
    sym (ap (λ b. cond b (Some (before + 1)) (find P (places_from (before + 1 + 1) text))) other)
    ∙ sym (find-first P (before + 1) text (omega arith)) ∙ tried

pub no_place : (from : ℤ) (text sought : List ℕ) (before : ℕ) → NothingBefore from text sought before → find (stands_at text sought) (places_from (before + 1) text) ≡ None → place_of from text sought ≡ pos 0
unfolding place_of
no_place from text sought before tried none = ap (λ o. pos (unwrap_or o 0)) (sym tried ∙ none)
