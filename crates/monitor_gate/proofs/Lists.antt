-- Lists of views of which one is set or one is added, and how many of them are out.
use Rattle.std.proofs.Common.{◌≡◌, ◌≢◌, ◌⊎◌, ℕ, zero, suc, ◌+◌, ◌<◌, ◌≤◌, List, [], ◌∷◌, ◌++◌, length, set, refl, sym, ap, subst, ⊎_elim, inl, inr, arith}
use mathlib.Core.Option.{some, some-injective, some-ne-none}
use lib.ListN.{get_elem?}
use Rattle.atomic_table.proofs.Lists.{at_set}
use Rattle.monitor_gate.specs.declared.views.Knows.{Knows}
use Rattle.monitor_gate.specs.Turns.{is_out, how_many_out}

pub out_set : (views : List Knows) (id : ℕ) (v w : Knows) → get_elem? views id ≡ some v → how_many_out (set views id w) + is_out v ≡ how_many_out views + is_out w
out_set [] id v w at = absurd (some-ne-none v (sym at))
out_set (x ∷ xs) zero v w at = let same = ap is_out (some-injective x v at) in omega arith
out_set (x ∷ xs) (suc id) v w at = let rest = out_set xs id v w at in omega arith

pub out_push : (views : List Knows) (w : Knows) → how_many_out (views ++ w ∷ []) ≡ how_many_out views + is_out w
out_push [] w = omega arith
out_push (x ∷ xs) w = let rest = out_push xs w in omega arith

pub out_has : (views : List Knows) (id : ℕ) (v : Knows) → get_elem? views id ≡ some v → is_out v ≤ how_many_out views
out_has [] id v at = absurd (some-ne-none v (sym at))
out_has (x ∷ xs) zero v at = let same = ap is_out (some-injective x v at) in omega arith
out_has (x ∷ xs) (suc id) v at = let rest = out_has xs id v at in omega arith

-- what is true of the view that was set, and of each other one, is true of each
pub each_set : (F : ℕ → Knows → Type 0) (views : List Knows) (id : ℕ) (w : Knows) → F id w → ((j : ℕ) (u : Knows) → j ≢ id → get_elem? views j ≡ some u → F j u) → (j : ℕ) (u : Knows) → get_elem? (set views id w) j ≡ some u → F j u
each_set F views id w mine others j u at =
    ⊎_elim
    (λ (x : (j ≡ id) × (w ≡ u)). subst (λ (y : ℕ × Knows). F y.0 y.1) (λ i. (sym x.0 i, x.1 i)) mine)
    (λ (x : (j ≢ id) × (get_elem? views j ≡ some u)). others j u x.0 x.1)
    (at_set views id j w u at)

module _ {A : Type 0} where
  pub set_there : (l : List A) (i : ℕ) (a b : A) → get_elem? l i ≡ some a → get_elem? (set l i b) i ≡ some b
  set_there [] i a b at = absurd (some-ne-none a (sym at))
  set_there (x ∷ xs) zero a b at = refl
  set_there (x ∷ xs) (suc i) a b at = set_there xs i a b at

  pub at_end : (l : List A) (a b : A) (j : ℕ) → get_elem? (l ++ a ∷ []) j ≡ some b → (get_elem? l j ≡ some b) ⊎ ((j ≡ length l) × (a ≡ b))
  at_end [] a b zero at = inr (refl, some-injective a b at)
  at_end [] a b (suc j) at = absurd (some-ne-none b (sym at))
  at_end (x ∷ xs) a b zero at = inl at
  at_end (x ∷ xs) a b (suc j) at =
      ⊎_elim inl (λ (t : (j ≡ length xs) × (a ≡ b)). inr (omega arith, t.1)) (at_end xs a b j at)

  pub within : (l : List A) (i : ℕ) (a : A) → get_elem? l i ≡ some a → i < length l
  within [] i a at = absurd (some-ne-none a (sym at))
  within (x ∷ xs) zero a at = omega arith
  within (x ∷ xs) (suc i) a at = let rest = within xs i a at in omega arith

  pub there : (l : List A) (i : ℕ) → i < length l → (a : A) × (get_elem? l i ≡ some a)
  there [] i below = absurd (omega arith)
  there (x ∷ xs) zero below = (x, refl)
  there (x ∷ xs) (suc i) below = there xs i (omega arith)
