-- Passes of different jobs, as many as there are jobs: so each job has one.
use Rattle.std.proofs.Common.{◌≡◌, ◌≢◌, ℕ, zero, suc, ◌<◌, eqb, Bool, true, false, List, [], ◌∷◌, ◌++◌, length, refl, sym, ap, ◌∙◌, ⊎_elim, arith, eq-eqb, ne_eqb}
use Rattle.std.specs.List.{IsDistinct, AllByRecursion, list_any}
use Rattle.std.proofs.lemmas.Map.Steps.{length-le_from_distinct_below}
use mathlib.Core.Option.{some, some-injective, some-ne-none}
use native.Mathlib.Decide.{ℕ_discrete}
use lib.ListN.{get_elem?}
use Rattle.monitor_gate.specs.declared.views.Pass.{Pass}
use Rattle.monitor_gate.specs.OneHistory.{Among}
use Rattle.monitor_gate.specs.Turns.{Apart}
use Rattle.monitor_gate.proofs.Lists.{at_end}

jobs_of : List Pass → List ℕ
jobs_of [] = []
jobs_of (p ∷ passes) = p.job ∷ jobs_of passes

pub apart_push : (passes : List Pass) (q : Pass) → Apart passes → ((k : ℕ) (p : Pass) → get_elem? passes k ≡ some p → p.job ≢ q.job) → Apart (passes ++ q ∷ [])
apart_push passes q apart new i j p p' at at' same =
    ⊎_elim
    (λ was. ⊎_elim
    (λ was'. apart i j p p' was was' same)
    (λ (t : (j ≡ length passes) × (q ≡ p')). absurd (new i p was (same ∙ ap (λ (x : Pass). x.job) (sym t.1))))
    (at_end passes q p' j at'))
    (λ (t : (i ≡ length passes) × (q ≡ p)). ⊎_elim
    (λ was'. absurd (new j p' was' (sym same ∙ ap (λ (x : Pass). x.job) (sym t.1))))
    (λ (u : (j ≡ length passes) × (q ≡ p')). t.0 ∙ sym u.0)
    (at_end passes q p' j at'))
    (at_end passes q p i at)

length-jobs_of : (passes : List Pass) → length (jobs_of passes) ≡ length passes
unfolding jobs_of
length-jobs_of [] = refl
length-jobs_of (p ∷ passes) = ap suc (length-jobs_of passes)

-- a number among the jobs is the job of one of the passes
found : (passes : List Pass) (job : ℕ) → list_any (eqb job) (jobs_of passes) ≡ true → Among passes job
unfolding jobs_of
found [] job is = absurd (grind arith)
found (p ∷ passes) job is = go (found passes job) (ℕ_discrete job p.job)
  where
    go : (list_any (eqb job) (jobs_of passes) ≡ true → Among passes job) → Dec (job ≡ p.job) → Among (p ∷ passes) job
    go rest (yes same) = (0, p, refl, sym same)
    go rest (no other) = let t = rest (rw (ne_eqb job p.job other) at is) in (suc t.0, t.1, t.2, t.3)

differ : (job : ℕ) (passes : List Pass) → ((k : ℕ) (p : Pass) → get_elem? passes k ≡ some p → job ≢ p.job) → AllByRecursion (λ y. eqb job y ≡ false) (jobs_of passes)
unfolding jobs_of
differ job [] ne = tt
differ job (p ∷ passes) ne = (ne_eqb job p.job (ne 0 p refl), differ job passes (λ k q at. ne (suc k) q at))

distinct : (passes : List Pass) → Apart passes → IsDistinct eqb (jobs_of passes)
unfolding jobs_of IsDistinct
distinct [] apart = tt
distinct (p ∷ passes) apart = (
  differ p.job passes (λ k q at same. absurd (let i = apart 0 (suc k) p q refl at same in omega arith)),
  distinct passes (λ i j q q' at at' same. let k = apart (suc i) (suc j) q q' at at' same in omega arith),
)

absent : (job : ℕ) (passes : List Pass) → list_any (eqb job) (jobs_of passes) ≡ false → (k : ℕ) (p : Pass) → get_elem? passes k ≡ some p → job ≢ p.job
unfolding jobs_of
absent job [] is k p at same = absurd (some-ne-none p (sym at))
absent job (q ∷ passes) is k p at same = go (absent job passes) k at (ℕ_discrete job q.job)
  where
    go : (list_any (eqb job) (jobs_of passes) ≡ false → (k : ℕ) (p : Pass) → get_elem? passes k ≡ some p → job ≢ p.job) → (k : ℕ) → get_elem? (q ∷ passes) k ≡ some p → Dec (job ≡ q.job) → ⊥
    go rest i at_i (yes here) = absurd (let t = eq-eqb job q.job here in let u = is in grind arith)
    go rest zero at_i (no other) = other (same ∙ ap (λ (x : Pass). x.job) (sym (some-injective q p at_i)))
    go rest (suc i) at_i (no other) = rest (rw (ne_eqb job q.job other) at is) i p at_i same

one_more : (job : ℕ) (passes : List Pass) → Apart passes → list_any (eqb job) (jobs_of passes) ≡ false → IsDistinct eqb (job ∷ jobs_of passes)
unfolding IsDistinct
one_more job passes apart is = (differ job passes (absent job passes is), distinct passes apart)

all_below : (job : ℕ) (passes : List Pass) (made : ℕ) → ((k : ℕ) (p : Pass) → get_elem? passes k ≡ some p → p.job < made) → job < made → (q : ℕ) → list_any (eqb q) (job ∷ jobs_of passes) ≡ true → q < made
all_below job passes made below less q is = go (ℕ_discrete q job)
  where
    go : Dec (q ≡ job) → q < made
    go (yes same) = omega arith
    go (no other) =
        let t = found passes q (rw (ne_eqb q job other) at is) in
        let lt = below t.0 t.1 t.2 in
        let e = t.3 in
        omega arith

-- as many as there are numbers below `made`, so each of them is there
pub all_there : (passes : List Pass) (made job : ℕ) → Apart passes → ((k : ℕ) (p : Pass) → get_elem? passes k ≡ some p → p.job < made) → length passes ≡ made → job < made → Among passes job
all_there passes made job apart below all less = go (list_any (eqb job) (jobs_of passes)) refl
  where
    go : (b : Bool) → list_any (eqb job) (jobs_of passes) ≡ b → Among passes job
    go true is = found passes job is
    go false is = absurd (
        let long = length-jobs_of passes in
        let few = length-le_from_distinct_below (job ∷ jobs_of passes) made (one_more job passes apart is) (all_below job passes made below less) in
        omega arith
        )
