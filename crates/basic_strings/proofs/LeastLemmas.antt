-- The first place that is found is the least one.
use Rattle.std.proofs.Common.{◌≡◌, ◌⊎◌, ℕ, zero, suc, ◌+◌, ◌-◌, ◌<◌, ◌≤◌, Bool, true, false, cond, List, ◌++◌, length, take, drop, Option, Some, None, ℤ, pos, refl, sym, ap, ◌∙◌, inl, inr, arith}
use Rattle.std.specs.Prelude.{unwrap_or}
use Rattle.std.specs.List.{find, range_with_len}
use Rattle.std.specs.Cmp.Lexicographic.{bytes_decides}
use Rattle.std.proofs.lemmas.Bool.{false≢true, cases_Bool, cases_eq, cases_lt}
use Rattle.std.proofs.lemmas.List.{take-append-drop, take_at, drop_at, length-append, length-take-le}
use Rattle.basic_strings.specs.Cuts.{place_given}
use Rattle.basic_strings.specs.Laws.{StandsAt, IsLeastPlace, StandsNowhere}
use Rattle.basic_strings.specs.Places.{stands_at, place_of}
use Rattle.basic_strings.proofs.PlaceLemmas.{place_given-positive}

-- no number in this range passes
abbrev NonePasses : (ℕ → Bool) → ℕ → ℕ → Type 0
NonePasses P from end = (j : ℕ) → from ≤ j → j < end → P j ≡ false

-- the number passes, and none before it
record PassesFirst (P : ℕ → Bool) (from count i : ℕ) : Type 0 where
  low : from ≤ i
  high : i < from + count
  passes : P i ≡ true
  before : NonePasses P from i

-- what a search through a range finds
abbrev FindsFirst : (ℕ → Bool) → ℕ → ℕ → Option ℕ → Type 0
FindsFirst P from count found =
    ((i : ℕ) × (found ≡ Some i) × PassesFirst P from count i) ⊎ ((found ≡ None) × NonePasses P from (from + count))

one_more : (P : ℕ → Bool) (from end : ℕ) → P from ≡ false → NonePasses P (from + 1) end → NonePasses P from end
one_more P from end failing none j low high =
    elim (cases_eq j from) [
      | inl same ↦ ap P same ∙ failing
      | inr differ ↦ none j (omega (arith, differ)) high
    ]

later : (P : ℕ → Bool) (from count : ℕ) → P from ≡ false → FindsFirst P (from + 1) count (find P (range_with_len (from + 1) count)) → FindsFirst P from (suc count) (find P (range_with_len from (suc count)))
later P from count failing (inl found) =
    let first = found.2 in
    inl (
      found.0,
      ap (λ b. cond b (Some from) (find P (range_with_len (from + 1) count))) failing ∙ found.1,
      record {
        low = omega (arith, first.low);
        high = omega (arith, first.high);
        passes = first.passes;
        before = one_more P from found.0 failing first.before;
      },
    )
later P from count failing (inr none) =
    let rest : NonePasses P (from + 1) (from + suc count) = λ j low high. none.1 j low (omega (arith, high)) in
    inr (ap (λ b. cond b (Some from) (find P (range_with_len (from + 1) count))) failing ∙ none.0, one_more P from (from + suc count) failing rest)

finds_first : (P : ℕ → Bool) (from count : ℕ) → FindsFirst P from count (find P (range_with_len from count))
finds_first P from zero = inr (refl, λ j low high. absurd (omega (arith, low, high)))
finds_first P from (suc count) =
    elim (cases_Bool (P from)) [
      | inl passing ↦ inl (
        from,
        ap (λ b. cond b (Some from) (find P (range_with_len (from + 1) count))) passing,
        record {
          low = omega arith;
          high = omega arith;
          passes = passing;
          before = λ j low high. absurd (omega (arith, low, high));
        },
      )
      | inr failing ↦ later P from count failing (finds_first P (from + 1) count)
    ]

-- the test says whether the string is there
stands : (text sought : List ℕ) (place : ℕ) → 1 ≤ place → place ≤ length text + 1 → stands_at text sought place ≡ true → StandsAt text sought place
stands text sought place low high passing =
    let rest = drop (place - 1) text in
    let same : sought ≡ take (length sought) rest = (bytes_decides sought (take (length sought) rest)).0 passing in
    record {
      front = take (place - 1) text;
      back = drop (length sought) rest;
      parts = sym (take-append-drop (place - 1) text)
          ∙ ap (λ t. take (place - 1) text ++ t) (sym (take-append-drop (length sought) rest) ∙ ap (λ t. t ++ drop (length sought) rest) (sym same));
      before = omega (arith, length-take-le (place - 1) text (omega arith));
    }

tested : (text sought : List ℕ) (place : ℕ) → StandsAt text sought place → stands_at text sought place ≡ true
tested text sought place at =
    let rest : drop (place - 1) text ≡ sought ++ at.back =
    ap (drop (place - 1)) at.parts ∙ drop_at at.front (sought ++ at.back) (place - 1) (omega (arith, at.before)) in
    let same : take (length sought) (drop (place - 1) text) ≡ sought =
    ap (take (length sought)) rest ∙ take_at sought at.back (length sought) refl in
    (bytes_decides sought (take (length sought) (drop (place - 1) text))).1 (sym same)

within : (text sought : List ℕ) (place : ℕ) → StandsAt text sought place → place ≤ length text + 1
within text sought place at =
    omega (arith, ap length at.parts, length-append at.front (sought ++ at.back), at.before)

not_before : (P : ℕ → Bool) (from i other : ℕ) → NonePasses P from i → from ≤ other → P other ≡ true → i ≤ other
not_before P from i other none low passing =
    elim (cases_lt other i) [
      | inl less ↦ absurd (false≢true (sym (none other low less) ∙ passing))
      | inr more ↦ more
    ]

pub place_is_least : (from : ℤ) (text sought : List ℕ) → ((place : ℕ) × (place_of from text sought ≡ pos place) × IsLeastPlace from text sought place) ⊎ ((place_of from text sought ≡ pos 0) × StandsNowhere from text sought)
unfolding place_of
place_is_least from text sought =
    let P = stands_at text sought in
    let start = place_given from in
    let positive : 1 ≤ start = place_given-positive from in
    elim (finds_first P start (length text + 2 - start)) [
      | inl found ↦
          let first = found.2 in
          inl (
            found.0,
            ap (λ o. pos (unwrap_or o 0)) found.1,
            record {
              reached = first.low;
              here = stands text sought found.0 (omega (arith, first.low)) (omega (arith, first.low, first.high)) first.passes;
              least = λ other low at. not_before P start found.0 other first.before low (tested text sought other at);
            },
          )
      | inr none ↦
          inr (
            ap (λ o. pos (unwrap_or o 0)) none.0,
            λ place low at.
                false≢true (sym (none.1 place low (omega (arith, low, within text sought place at))) ∙ tested text sought place at),
          )
    ]
