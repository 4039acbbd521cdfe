-- Zeros at the end of a string.
use Rattle.std.proofs.Common.{◌≡◌, ℕ, ◌+◌, ◌<◌, inl, inr, Bool, true, false, List, [], ◌∷◌, ◌++◌, length, take, get_or, refl, ap, ◌∙◌, sym, add-one}
use Rattle.std.proofs.Math.Seq.{take-suc}
use Rattle.std.proofs.lemmas.Bool.Decides.{eqb_tells}
use Rattle.std.specs.Prelude.{◌==◌, if◌then◌else◌}
use Rattle.virtual_arrays.specs.Elements.{without_last_zero, without_zeros}

zero_behind : (bytes : List ℕ) (byte : ℕ) → (byte == 0) ≡ true → without_zeros (bytes ++ byte ∷ []) ≡ without_zeros bytes
zero_behind [] byte is = ap (λ (b : Bool). if b then [] else byte ∷ []) is
zero_behind (first ∷ bytes) byte is = ap (without_last_zero first) (zero_behind bytes byte is)

stays_in_front : (first : ℕ) (bytes : List ℕ) (byte : ℕ) → without_last_zero first (bytes ++ byte ∷ []) ≡ first ∷ (bytes ++ byte ∷ [])
stays_in_front first [] byte = refl
stays_in_front first (next ∷ bytes) byte = refl

some_behind : (bytes : List ℕ) (byte : ℕ) → (byte == 0) ≡ false → without_zeros (bytes ++ byte ∷ []) ≡ bytes ++ byte ∷ []
some_behind [] byte is = ap (λ (b : Bool). if b then [] else byte ∷ []) is
some_behind (first ∷ bytes) byte is = ap (without_last_zero first) (some_behind bytes byte is) ∙ stays_in_front first bytes byte

is_some : (byte : ℕ) → (byte ≡ 0 → ⊥) → (byte == 0) ≡ false
is_some byte some = elim (eqb_tells byte 0) [
  | inl p ↦ absurd (some p.1)
  | inr p ↦ p.0
]

-- a last byte that is zero is dropped
pub left_out : (bytes : List ℕ) (i : ℕ) → i < length bytes → get_or bytes i 0 ≡ 0 → without_zeros (take (i + 1) bytes) ≡ without_zeros (take i bytes)
left_out bytes i less is =
    ap without_zeros (ap (λ (k : ℕ). take k bytes) (add-one i) ∙ take-suc bytes i 0 less) ∙ zero_behind (take i bytes) (get_or bytes i 0) (ap (λ (b : ℕ). b == 0) is)

-- a last byte that is not zero keeps all
pub kept_up_to : (bytes : List ℕ) (i : ℕ) → i < length bytes → (get_or bytes i 0 ≡ 0 → ⊥) → without_zeros (take (i + 1) bytes) ≡ take (i + 1) bytes
kept_up_to bytes i less some =
    let same : take (i + 1) bytes ≡ take i bytes ++ get_or bytes i 0 ∷ [] = ap (λ (k : ℕ). take k bytes) (add-one i) ∙ take-suc bytes i 0 less in
    ap without_zeros same ∙ some_behind (take i bytes) (get_or bytes i 0) (is_some (get_or bytes i 0) some) ∙ sym same
