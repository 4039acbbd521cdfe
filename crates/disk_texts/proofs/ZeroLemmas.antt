-- Zeros at the end of bytes, taken off one by one from behind.
use Rattle.std.proofs.Common.{◌≡◌, ℕ, suc, ◌<◌, ◌≤◌, Bool, cond, List, [], ◌∷◌, ◌++◌, length, take, get_or, refl, sym, ap, ◌∙◌, arith}
use Rattle.std.specs.Prelude.{◌-◌}
use Rattle.std.proofs.lemmas.Bool.{ne_eqb}
use Rattle.deck_model.specs.DiskTexts.{before_zeros, without_zeros}

-- one zero at the end makes no difference
one_zero : (front : List ℕ) → without_zeros (front ++ 0 ∷ []) ≡ without_zeros front
unfolding without_zeros
one_zero [] = refl
one_zero (b ∷ front) = ap (before_zeros b) (one_zero front)

last_place : (b c : ℕ) (bs : List ℕ) → length (b ∷ c ∷ bs) - 1 ≡ suc (length (c ∷ bs) - 1)
last_place b c bs = omega arith

-- some bytes are all but the last, and the last
pub last_split : (kept : List ℕ) (d : ℕ) → 1 ≤ length kept → kept ≡ take (length kept - 1) kept ++ get_or kept (length kept - 1) d ∷ []
last_split [] d some = absurd (omega (arith, some))
last_split (b ∷ []) d some = refl
last_split (b ∷ c ∷ bs) d some =
    ap (λ (l : List ℕ). b ∷ l) (last_split (c ∷ bs) d (omega arith))
    ∙ sym (λ i. take (last_place b c bs i) (b ∷ c ∷ bs) ++ get_or (b ∷ c ∷ bs) (last_place b c bs i) d ∷ [])

pub zero_kept : (all kept : List ℕ) (d : ℕ) → 1 ≤ length kept → get_or kept (length kept - 1) d ≡ 0 → without_zeros all ≡ without_zeros kept → without_zeros all ≡ without_zeros (take (length kept - 1) kept)
zero_kept all kept d some is same =
    same ∙ ap without_zeros (last_split kept d some ∙ ap (λ (b : ℕ). take (length kept - 1) kept ++ b ∷ []) is) ∙ one_zero (take (length kept - 1) kept)

pub last_stays : (kept : List ℕ) (d : ℕ) → 1 ≤ length kept → (get_or kept (length kept - 1) d ≡ 0 → ⊥) → without_zeros kept ≡ kept
unfolding without_zeros
last_stays [] d some not_zero = absurd (omega (arith, some))
last_stays (b ∷ []) d some not_zero = ap (λ (t : Bool). cond t [] (b ∷ [])) (ne_eqb b 0 not_zero)
last_stays (b ∷ c ∷ bs) d some not_zero =
    ap (before_zeros b) (last_stays (c ∷ bs) d (omega arith) (λ is. not_zero (ap (λ (n : ℕ). get_or (b ∷ c ∷ bs) n d) (last_place b c bs) ∙ is)))

pub none_stays : (kept : List ℕ) → length kept < 1 → without_zeros kept ≡ kept
unfolding without_zeros
none_stays [] few = refl
none_stays (b ∷ bs) few = absurd (omega (arith, few))
