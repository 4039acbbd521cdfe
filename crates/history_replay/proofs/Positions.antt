-- The places of a job's entries in a history, and its part.
use Rattle.std.proofs.Common.{◌≡◌, ℕ, zero, suc, ◌<◌, ◌≤◌, Bool, true, false, List, [], ◌∷◌, length, drop, Some, None, refl, sym, ap, ◌∙◌, arith, eqb-true}
use Rattle.std.specs.Prelude.{◌==◌, if◌then◌else◌, map, filter, slice_get, option_map}
use Rattle.std.proofs.lemmas.Option.{slice_get_within, none-some, same_Some}
use Rattle.monitor_calls.specs.declared.calls.Entry.{Entry}
use Rattle.monitor_model.specs.History.{pair_in, part_of}
use Rattle.history_replay.specs.Disputes.{entry_position}
use Rattle.history_replay.specs.Lists.{position_behind}

abbrev own : ℕ → Entry → Bool
own job entry = entry.job == job

-- within a list there is an element
pub item_within : {X : Type 0} (xs : List X) (place : ℕ) → place < length xs → (x : X) × (slice_get xs place ≡ Some x)
item_within [] place within = absurd (omega arith)
item_within (x ∷ xs) zero within = (x, refl)
item_within (x ∷ xs) (suc place) within = item_within xs place (omega arith)

pub drop_item : {X : Type 0} (xs : List X) (place : ℕ) (x : X) → slice_get xs place ≡ Some x → drop place xs ≡ x ∷ drop (suc place) xs
drop_item [] place x is = absurd (none-some x is)
drop_item (first ∷ xs) zero x is = ap (λ y. y ∷ xs) (same_Some first x is)
drop_item (first ∷ xs) (suc place) x is = drop_item xs place x is

-- a job's nth pair is that of the entry at its position
pub part_at : (job place : ℕ) (history : List Entry) → slice_get (part_of job history) place ≡ option_map pair_in (slice_get history (entry_position job place history))
part_at job place [] = refl
part_at job zero (entry ∷ history) =
    elim (own job entry) as (λ v. slice_get (map pair_in (if v then entry ∷ filter (own job) history else filter (own job) history)) zero ≡ option_map pair_in (slice_get (entry ∷ history) (if v then 0 else suc (entry_position job zero history)))) [
      | true ↦ refl
      | false ↦ part_at job zero history
    ]
part_at job (suc place) (entry ∷ history) =
    elim (own job entry) as (λ v. slice_get (map pair_in (if v then entry ∷ filter (own job) history else filter (own job) history)) (suc place) ≡ option_map pair_in (slice_get (entry ∷ history) (suc (if v then entry_position job place history else entry_position job (suc place) history)))) [
      | true ↦ part_at job place history
      | false ↦ part_at job (suc place) history
    ]

-- the entry there is the job's
pub own_at : (job place : ℕ) (history : List Entry) (found : Entry) → slice_get history (entry_position job place history) ≡ Some found → found.job ≡ job
own_at job place [] found = λ is. absurd (none-some found is)
own_at job zero (entry ∷ history) found =
    elim (own job entry) as (λ v. own job entry ≡ v → slice_get (entry ∷ history) (if v then 0 else suc (entry_position job zero history)) ≡ Some found → found.job ≡ job) [
      | true ↦ λ same is. sym (ap (λ (e : Entry). e.job) (same_Some entry found is)) ∙ eqb-true entry.job job same
      | false ↦ λ other is. own_at job zero history found is
    ] refl
own_at job (suc place) (entry ∷ history) found =
    elim (own job entry) as (λ v. slice_get (entry ∷ history) (suc (if v then entry_position job place history else entry_position job (suc place) history)) ≡ Some found → found.job ≡ job) [
      | true ↦ λ is. own_at job place history found is
      | false ↦ λ is. own_at job (suc place) history found is
    ]

-- if there is none, it is the place after the last entry
pub position-le : (job place : ℕ) (history : List Entry) → entry_position job place history ≤ length history
position-le job place [] = omega arith
position-le job zero (entry ∷ history) =
    elim (own job entry) as (λ v. (if v then 0 else suc (entry_position job zero history)) ≤ suc (length history)) [
      | true ↦ omega arith
      | false ↦ let rest = position-le job zero history in omega arith
    ]
position-le job (suc place) (entry ∷ history) =
    elim (own job entry) as (λ v. suc (if v then entry_position job place history else entry_position job (suc place) history) ≤ suc (length history)) [
      | true ↦ let rest = position-le job place history in omega arith
      | false ↦ let rest = position-le job (suc place) history in omega arith
    ]

-- the next entry of a job is after the one before
pub position_next : (job place : ℕ) (history : List Entry) → entry_position job place history < length history → entry_position job (suc place) history ≡ position_behind job (entry_position job place history) history
position_next job place [] = λ within. absurd (omega arith)
position_next job zero (entry ∷ history) =
    elim (own job entry) as (λ v. (if v then 0 else suc (entry_position job zero history)) < suc (length history)
    → suc (if v then entry_position job zero history else entry_position job (suc zero) history)
    ≡ position_behind job (if v then 0 else suc (entry_position job zero history)) (entry ∷ history)) [
      | true ↦ λ within. omega arith
      | false ↦ λ within. let rest = position_next job zero history (omega arith) in omega arith
    ]
position_next job (suc place) (entry ∷ history) =
    elim (own job entry) as (λ v. suc (if v then entry_position job place history else entry_position job (suc place) history) < suc (length history)
    → suc (if v then entry_position job (suc place) history else entry_position job (suc (suc place)) history)
    ≡ position_behind job (suc (if v then entry_position job place history else entry_position job (suc place) history)) (entry ∷ history)) [
      | true ↦ λ within. let rest = position_next job place history (omega arith) in omega arith
      | false ↦ λ within. let rest = position_next job (suc place) history (omega arith) in omega arith
    ]

-- a job has no more pairs than the history has entries
pub part-le : (job : ℕ) (history : List Entry) → length (part_of job history) ≤ length history
part-le job [] = omega arith
part-le job (entry ∷ history) =
    elim (own job entry) as (λ v. length (map pair_in (if v then entry ∷ filter (own job) history else filter (own job) history)) ≤ suc (length history)) [
      | true ↦ let rest = part-le job history in omega arith
      | false ↦ let rest = part-le job history in omega arith
    ]

-- a position within the history is a place within the part, and the other way round
pub position_within : (job place : ℕ) (history : List Entry) → place < length (part_of job history) → (entry : Entry) × (slice_get history (entry_position job place history) ≡ Some entry) × (slice_get (part_of job history) place ≡ Some (pair_in entry)) × (entry.job ≡ job)
position_within job place history within =
    let at = entry_position job place history in
    elim (slice_get history at) as (λ v. slice_get history at ≡ v → (entry : Entry) × (slice_get history at ≡ Some entry) × (slice_get (part_of job history) place ≡ Some (pair_in entry)) × (entry.job ≡ job)) [
      | None ↦ λ is.
          let found = item_within (part_of job history) place within in
          absurd (none-some found.0 (sym (part_at job place history ∙ ap (option_map pair_in) is) ∙ found.1))
      | Some entry ↦ λ is. (entry, is, part_at job place history ∙ ap (option_map pair_in) is, own_at job place history entry is)
    ] refl

pub place_within : (job place : ℕ) (history : List Entry) → entry_position job place history < length history → place < length (part_of job history)
place_within job place history within =
    let at = entry_position job place history in
    elim (slice_get history at) as (λ v. slice_get history at ≡ v → place < length (part_of job history)) [
      | None ↦ λ is. let found = item_within history at within in absurd (none-some found.0 (sym is ∙ found.1))
      | Some entry ↦ λ is. slice_get_within (part_of job history) place (pair_in entry) (part_at job place history ∙ ap (option_map pair_in) is)
    ] refl
