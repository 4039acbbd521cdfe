-- The terminals of a drill can be those of a deck.
use Rattle.std.proofs.Common.{◌≡◌, ◌∙◌, ◌≤◌, ◌<◌, ℕ, suc, zero, Bool, true, false, ◌&&◌, ◌⊎◌, inl, inr, List, [], ◌∷◌, ◌++◌, length, refl, ap, arith, codes}
use Rattle.std.specs.Prelude.{nat_le}
use Rattle.std.specs.List.{AllByRecursion, list_all}
use Rattle.std.specs.Fmt.{decimal, digits}
use Rattle.std.proofs.lemmas.Bool.{cases_lt, leb-true}
use Rattle.std.proofs.lemmas.List.{length-append}
use Rattle.monitor_calls.specs.Names.{is_terminal_name}
use Rattle.deck_model.specs.Deck.{IsKeyLine, IsTerminal, AreTerminals, Terminal, are_named_apart}
use Rattle.drill_deck.specs.DrillDeck.{drill_keys, drill_terminal, drill_terminals}

-- whether a test holds of each number below this one
abbrev all_below : (ℕ → Bool) → ℕ → Bool
all_below p zero = true
all_below p (suc n) = p n && all_below p n

both : (a b : Bool) → (a && b) ≡ true → (a ≡ true) × (b ≡ true)
both true true e = (refl, refl)
both true false e = absurd (cc)
both false b e = absurd (cc)

last_or_below : (k n : ℕ) → k < suc n → (k ≡ n) ⊎ (k < n)
last_or_below k n lt = elim (cases_lt k n) [ inl less ↦ inr less | inr more ↦ inl (omega (arith, more, lt)) ]

below : (p : ℕ → Bool) (n : ℕ) → all_below p n ≡ true → (k : ℕ) → k < n → p k ≡ true
below p zero all k lt = absurd (omega (arith, lt))
below p (suc n) all k lt =
    let parts = both (p n) (all_below p n) all in
    let rest : k < n → p k ≡ true = λ less. below p n parts.1 k less in
    elim (last_or_below k n lt) [ inl same ↦ ap p same ∙ parts.0 | inr less ↦ rest less ]

pub is_name : (number : ℕ) → number ≤ 16 → is_terminal_name (codes "T" ++ decimal number) ≡ true
unfolding digits
is_name number few = below (λ n. is_terminal_name (codes "T" ++ decimal n)) 17 refl number (omega (arith, few))

named_apart : (jobs : ℕ) → jobs ≤ 16 → are_named_apart (drill_terminals jobs) ≡ true
unfolding digits
named_apart jobs few = below (λ n. are_named_apart (drill_terminals n)) 17 refl jobs (omega (arith, few))

key_lines : (keys : List (List ℕ)) → list_all (λ key. nat_le (length key) 255) keys ≡ true → AllByRecursion IsKeyLine keys
key_lines [] e = tt
key_lines (key ∷ keys) e =
    let parts = both (nat_le (length key) 255) (list_all (λ k. nat_le (length k) 255) keys) e in
    (leb-true (length key) 255 parts.0, key_lines keys parts.1)

all_push : (P : Terminal → Type 0) (xs : List Terminal) (x : Terminal) → AllByRecursion P xs → P x → AllByRecursion P (xs ++ x ∷ [])
all_push P [] x all p = (p, tt)
all_push P (y ∷ xs) x all p = (all.0, all_push P xs x all.1 p)

each : (jobs : ℕ) → jobs ≤ 16 → AllByRecursion IsTerminal (drill_terminals jobs)
each zero few = tt
each (suc jobs) few = all_push IsTerminal (drill_terminals jobs) (drill_terminal (suc jobs)) (each jobs (omega (arith, few))) (record { name = is_name (suc jobs) few; keys = key_lines drill_keys refl })

as_many : (jobs : ℕ) → length (drill_terminals jobs) ≡ jobs
as_many zero = refl
as_many (suc jobs) = omega (arith, length-append (drill_terminals jobs) (drill_terminal (suc jobs) ∷ []), as_many jobs)

pub are_terminals : (jobs : ℕ) → jobs ≤ 16 → AreTerminals (drill_terminals jobs)
are_terminals jobs few = record { each = each jobs few; apart = named_apart jobs few; few = omega (arith, as_many jobs, few) }
